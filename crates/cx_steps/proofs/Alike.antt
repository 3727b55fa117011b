-- States that differ in where the run stands take the same steps of a full expression.
use Rattle.std.proofs.Common.{◌≡◌, refl, ℤ, List, [], ◌∷◌, Result, Ok, Err}
use Rattle.cr_base.specs.declared.refusal.Place.{Place}
use Rattle.cr_world.specs.World.{World, Got, with_memory, blocks_of}
use Rattle.cx_mean.specs.Accesses.{CStored}
use Rattle.cx_mean.specs.Calls.{CCallee, defined, external, CCalled, returns_value, ends_with, COutcome, external_call}
use Rattle.cx_mean.specs.Moves.{CBeginning, CPutting, CPurpose, puts_it, drops_it, turns_on, gives_it, chooses_by, CStand}
use Rattle.cx_mean.specs.Operands.{CWhy, CStop, CValue, COperand}
use Rattle.cx_mean.specs.Paths.{CSite}
use Rattle.cx_mean.specs.Settings.{CSetting}
use Rattle.cx_mean.specs.State.{CCaller, CControl, CState, after_begin, after_choice, after_give, after_return, after_step, after_store, answered_by, calling, ended_by, finished_for, given_back, going_on, returned_to, status_in, use_step, value_given, choice_at, frame_for}
use Rattle.cx_mean.specs.Steps.{CStepped, did, asks_call}
use Rattle.cx_mean.specs.Work.{CWork, finished, needs, chooses, tests, carries, updates, fills, waits, resumed}
use Rattle.cx_mean.specs.Initialisers.{put_stored}
use Rattle.cx_mean.specs.Marks.{no_marks}
use Rattle.cx_mean.specs.Operands.{with_marks}
use Rattle.mem_bytes.specs.declared.value.Ptr.{Ptr}

abbrev pub stands_at : CControl → CState → CState
stands_at control state = record state { control = control }

module _ (state : CState) (control : CControl) where
  finished_alike : (world : World) (operand : COperand) (purpose : CPurpose) → finished_for (stands_at control state) world operand purpose ≡ finished_for state world operand purpose
  finished_alike world operand (puts_it place one) = refl
  finished_alike world operand (drops_it site) = refl
  finished_alike world operand (turns_on site) = refl
  finished_alike world operand (gives_it place site) = refl
  finished_alike world operand (chooses_by place site) = refl

  pub going_alike : (world : World) (work : CWork) (purpose : CPurpose) → going_on (stands_at control state) world work purpose ≡ going_on state world work purpose
  going_alike world (finished operand) purpose = finished_alike world operand purpose
  going_alike world (needs node operands) purpose = refl
  going_alike world (chooses node first) purpose = refl
  going_alike world (tests node marks second) purpose = refl
  going_alike world (carries node marks part) purpose = refl
  going_alike world (updates node update stage marks) purpose = refl
  going_alike world (fills node marks one others value) purpose = refl
  going_alike world (waits node marks) purpose = refl

  -- nor does it matter in which world it stood
  dropped_anywhere : (before world : World) (operand : COperand) (purpose : CPurpose) → finished_for (record state { control = control; world = before }) world operand purpose ≡ finished_for state world operand purpose
  dropped_anywhere before world operand (puts_it place one) = refl
  dropped_anywhere before world operand (drops_it site) = refl
  dropped_anywhere before world operand (turns_on site) = refl
  dropped_anywhere before world operand (gives_it place site) = refl
  dropped_anywhere before world operand (chooses_by place site) = refl

  pub going_anywhere : (before world : World) (work : CWork) (purpose : CPurpose) → going_on (record state { control = control; world = before }) world work purpose ≡ going_on state world work purpose
  going_anywhere before world (finished operand) purpose = dropped_anywhere before world operand purpose
  going_anywhere before world (needs node operands) purpose = refl
  going_anywhere before world (chooses node first) purpose = refl
  going_anywhere before world (tests node marks second) purpose = refl
  going_anywhere before world (carries node marks part) purpose = refl
  going_anywhere before world (updates node update stage marks) purpose = refl
  going_anywhere before world (fills node marks one others value) purpose = refl
  going_anywhere before world (waits node marks) purpose = refl

  answered_alike : (work : CWork) (purpose : CPurpose) (outcome : COutcome) → answered_by (stands_at control state) work purpose outcome ≡ answered_by state work purpose outcome
  answered_alike work purpose (Ok (returns_value value world)) = going_alike world (resumed value work) purpose
  answered_alike work purpose (Ok (ends_with status world)) = refl
  answered_alike work purpose (Err stop) = refl

  pub calling_alike : (setting : CSetting) (work : CWork) (purpose : CPurpose) (called : CCalled) (callee : CCallee) →
      calling setting (stands_at control state) work purpose called callee ≡ calling setting state work purpose called callee
  calling_alike setting work purpose called (defined one) = refl
  calling_alike setting work purpose called (external one) = answered_alike work purpose (external_call setting called one state.world)

  pub step_alike : (setting : CSetting) (purpose : CPurpose) (found : CStepped) → after_step setting (stands_at control state) purpose found ≡ after_step setting state purpose found
  step_alike setting purpose (Ok (did work blocks)) = going_alike (with_memory blocks state.world) work purpose
  step_alike setting purpose (Ok (asks_call called work)) = calling_alike setting work purpose called called.callee
  step_alike setting purpose (Err fault) = refl

  -- ---- uses

  store_alike : (place : Place) (one : CPutting) (found : Result CStored CWhy) → after_store (stands_at control state) place one found ≡ after_store state place one found
  store_alike place one (Ok done) = refl
  store_alike place one (Err why) = refl

  ended_alike : (world : World) (found : Result ℤ CWhy) → ended_by (stands_at control state) world found ≡ ended_by state world found
  ended_alike world (Ok status) = refl
  ended_alike world (Err why) = refl

  choice_alike : (place : Place) (found : Result CStand CWhy) → after_choice (stands_at control state) place found ≡ after_choice state place found
  choice_alike place (Ok one) = refl
  choice_alike place (Err why) = refl

returned_alike : (state : CState) (control : CControl) (world : World) (value : CValue) (callers : List CCaller) →
    returned_to (stands_at control state) world value callers ≡ returned_to state world value callers
returned_alike state control world value [] = ended_alike state control world (status_in value)
returned_alike state control world value (caller ∷ others) = going_alike (record state { callers = others }) control world (resumed value caller.work) caller.purpose

pub begin_alike : (setting : CSetting) (state : CState) (control : CControl) (one : CBeginning) (found : Result (Got Ptr) CStop) → after_begin setting (stands_at control state) one found ≡ after_begin setting state one found
begin_alike setting state control one (Ok got) = refl
begin_alike setting state control one (Err stop) = refl

module _ (state : CState) (control : CControl) where
  give_alike : (place : Place) (site : CSite) (found : Result CValue CWhy) → after_give (stands_at control state) place site found ≡ after_give state place site found
  give_alike place site (Ok value) = returned_alike state control (after_return site state.world) (given_back value) state.callers
  give_alike place site (Err why) = refl

  pub use_alike : (setting : CSetting) (operand : COperand) (purpose : CPurpose) → use_step setting (stands_at control state) operand purpose ≡ use_step setting state operand purpose
  use_alike setting operand (puts_it place one) =
      store_alike state control place one
      (put_stored setting (frame_for state (puts_it place one)) (blocks_of state.world) one.object one.spot one.type (with_marks no_marks operand))
  use_alike setting operand (drops_it site) = finished_alike state control state.world operand (drops_it site)
  use_alike setting operand (turns_on site) = finished_alike state control state.world operand (turns_on site)
  use_alike setting operand (gives_it place site) = give_alike place site (value_given operand.value)
  use_alike setting operand (chooses_by place site) = choice_alike state control place (choice_at (blocks_of state.world) operand.value site.levels site.bottom)
