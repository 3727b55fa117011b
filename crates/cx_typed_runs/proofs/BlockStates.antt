-- A step of a program makes one block at the most (ISO C99, 5.1.2.3, 6.2.4): an object begins, or an allocation gives one; all else that it does
-- to memory writes cells of blocks that live, and lets blocks die.
use Rattle.std.proofs.Common.{◌≡◌, ℕ, ◌≤◌, Bool, true, false, ℤ, List, [], ◌∷◌, Option, Some, None, Result, Ok, Err, refl}
use Rattle.cr_base.specs.declared.layout.Laid.{Laid}
use Rattle.cr_base.specs.declared.refusal.Place.{Place}
use Rattle.cr_base.specs.Layout.{most_bytes}
use Rattle.cr_world.specs.Held.{fresh_block, heap_align, with_block}
use Rattle.cr_world.specs.World.{Got, World, blocks_of, begun_at, limit_of, object_begun}
use Rattle.cx_core.specs.Trees.{CTy, unqualified, CObject, CFun}
use Rattle.cx_core.specs.Typing.{object_with}
use Rattle.cx_mean.proofs.KeptNodes.{IfGiven, given_and, given_then}
use Rattle.cx_mean.specs.Accesses.{CStored, stored}
use Rattle.cx_mean.specs.Calls.{CCallee, defined, external, CCalled, returns_value, ends_with, COutcome, external_call}
use Rattle.cx_mean.specs.Marks.{no_marks}
use Rattle.cx_mean.specs.Moves.{CPutting, CPurpose, puts_it, drops_it, turns_on, gives_it, chooses_by, CBeginning, CMove, values, reaches, begins, leaves, calls_main, goes_nowhere, CStand, slots_of_site, is_switch}
use Rattle.cx_mean.specs.Nodes.{truth_of_value}
use Rattle.cx_mean.specs.Operands.{CWhy, needed, CStop, CValue, designates, COperand, with_marks, Frame, scalar_value}
use Rattle.cx_mean.specs.Paths.{CLevel, CBottom, CSite}
use Rattle.cx_mean.specs.Settings.{CSetting, extent_in}
use Rattle.cx_mean.specs.State.{CCaller, CControl, begins_static, moves, evaluates, uses, takes, has_ended, has_stopped, CState, finished_for, going_on, answered_by, calling, ended_by, status_in, given_back, returned_to, after_return, returning, frame_for, after_step, expression_step, after_store, value_given, after_give, choice_made, choice_at, after_choice, use_step, CShape, shape_of, as_stop, object_begins, with_slot, slot, after_begin, argument_stored, param_begins, after_param, place_of_body, take_step, static_begins, after_static, no_place, move_step, step_of, c_step}
use Rattle.cx_mean.specs.Steps.{did, asks_call, CStepped, step_at, picked}
use Rattle.cx_mean.specs.Values.{number_in}
use Rattle.cx_mean.specs.Work.{CWork, finished, needs, chooses, tests, carries, updates, fills, waits, ready}
use Rattle.mem_bytes.specs.Counted.{after_alloc}
use Rattle.mem_bytes.specs.declared.fault.StoreFault.{StoreFault}
use Rattle.mem_bytes.specs.declared.fault.StoreFault.TheVariants.{Full, Memory}
use Rattle.mem_bytes.specs.declared.value.Ptr.{Ptr}
use Rattle.mem_bytes.specs.declared.value.Value.TheVariants.{Object as Pointer}
use Rattle.mem_bytes.specs.Memory.{Blocks}
use Rattle.cx_typed_runs.proofs.BlockCalls.{OutcomeGrown, outside_grown}
use Rattle.cx_typed_runs.proofs.BlockChanges.{IsKept}
use Rattle.cx_typed_runs.proofs.BlockMoves.{StandKept, without_kept, next_kept, putting_kept, beginning_kept, reached_kept, choosing_kept, switching_kept, turning_on_kept}
use Rattle.cx_typed_runs.proofs.BlockSteps.{StepKept, step_kept}
use Rattle.cx_typed_runs.proofs.BlockStores.{StoreKept, store_kept, put_stored_kept}

-- what is said of the memory of a state
abbrev pub OfState : (Blocks → Type 0) → CState → Type 0
OfState P state = P (blocks_of state.world)

-- ---- what makes no block

module _ (P : Blocks → Type 0) (kept : IsKept P) where
  finished_kept : (state : CState) (world : World) (operand : COperand) (purpose : CPurpose) → P (blocks_of world) → OfState P (finished_for state world operand purpose)
  finished_kept state world operand (drops_it site) p = next_kept P kept site.levels site.bottom (blocks_of world) p
  finished_kept state world operand (turns_on site) p = turning_on_kept P kept site (blocks_of world) p
  finished_kept state world operand (puts_it place one) p = p
  finished_kept state world operand (gives_it place site) p = p
  finished_kept state world operand (chooses_by place site) p = p

  going_kept : (state : CState) (world : World) (work : CWork) (purpose : CPurpose) → P (blocks_of world) → OfState P (going_on state world work purpose)
  going_kept state world (finished operand) purpose p = finished_kept state world operand purpose p
  going_kept state world (needs node operands) purpose p = p
  going_kept state world (chooses node first) purpose p = p
  going_kept state world (tests node marks second) purpose p = p
  going_kept state world (carries node marks part) purpose p = p
  going_kept state world (updates node update stage marks) purpose p = p
  going_kept state world (fills node marks one others value) purpose p = p
  going_kept state world (waits node marks) purpose p = p

  -- ---- returns

  ended_kept : (state : CState) (world : World) (status : Result ℤ CWhy) → P (blocks_of world) → OfState P (ended_by state world status)
  ended_kept state world (Ok status) p = p
  ended_kept state world (Err why) p = p

  returned_kept : (state : CState) (world : World) (value : CValue) (callers : List CCaller) → P (blocks_of world) → OfState P (returned_to state world value callers)
  returned_kept state world value [] p = ended_kept state world (status_in value) p
  returned_kept state world value (caller ∷ others) p = going_kept (record state { callers = others }) world _ caller.purpose p

  returning_kept : (state : CState) (value : CValue) (site : CSite) → OfState P state → OfState P (returning state value site)
  returning_kept state value site p =
      returned_kept state (after_return site state.world) (given_back value) state.callers (without_kept P kept (slots_of_site site) (blocks_of state.world) p)

  -- ---- uses of finished values

  stored_kept : (state : CState) (place : Place) (one : CPutting) (outcome : Result CStored CWhy) → IfGiven (StoreKept P) outcome → OfState P state → OfState P (after_store state place one outcome)
  stored_kept state place one (Ok done) is p = putting_kept P kept one.object one.others one.behind done.blocks is
  stored_kept state place one (Err why) is p = p

  gave_kept : (state : CState) (place : Place) (site : CSite) (outcome : Result CValue CWhy) → OfState P state → OfState P (after_give state place site outcome)
  gave_kept state place site (Ok value) p = returning_kept state value site p
  gave_kept state place site (Err why) p = p

  made_choice_kept : (chooses_one : Bool) (blocks : Blocks) (value : CValue) (level : CLevel) (outer : List CLevel) (bottom : CBottom) → P blocks → IfGiven (StandKept P) (choice_made chooses_one blocks value level outer bottom)
  made_choice_kept true blocks value level outer bottom p =
      given_then (StandKept P) (scalar_value value) _ (λ one.
      given_then (StandKept P) (number_in one) _ (λ number. switching_kept P kept level.form number level outer bottom blocks p))
  made_choice_kept false blocks value level outer bottom p =
      given_then (StandKept P) (truth_of_value blocks value) _ (λ holds. choosing_kept P kept level.form holds level outer bottom blocks p)

  choice_kept : (blocks : Blocks) (value : CValue) (levels : List CLevel) (bottom : CBottom) → P blocks → IfGiven (StandKept P) (choice_at blocks value levels bottom)
  choice_kept blocks value [] bottom p = tt
  choice_kept blocks value (level ∷ outer) bottom p = made_choice_kept (is_switch level.form) blocks value level outer bottom p

  chose_kept : (state : CState) (place : Place) (outcome : Result CStand CWhy) → IfGiven (StandKept P) outcome → OfState P state → OfState P (after_choice state place outcome)
  chose_kept state place (Ok one) is p = is
  chose_kept state place (Err why) is p = p

  used_kept : (setting : CSetting) (state : CState) (operand : COperand) (purpose : CPurpose) → OfState P state → OfState P (use_step setting state operand purpose)
  used_kept setting state operand (puts_it place one) p =
      stored_kept state place one _
      (put_stored_kept P kept (blocks_of state.world) p setting (frame_for state (puts_it place one)) one.object one.spot one.type (with_marks no_marks operand)) p
  used_kept setting state operand (drops_it site) p = finished_kept state state.world operand (drops_it site) p
  used_kept setting state operand (turns_on site) p = finished_kept state state.world operand (turns_on site) p
  used_kept setting state operand (gives_it place site) p = gave_kept state place site (value_given operand.value) p
  used_kept setting state operand (chooses_by place site) p =
      chose_kept state place (choice_at (blocks_of state.world) operand.value site.levels site.bottom) (choice_kept (blocks_of state.world) operand.value site.levels site.bottom p) p

  -- ---- arguments

  abbrev GotKept : Got Ptr → Type 0
  GotKept got = P (blocks_of got.world)

  as_stop_kept : (place : Place) (outcome : Result CStored CWhy) → IfGiven (StoreKept P) outcome → IfGiven (StoreKept P) (as_stop place outcome)
  as_stop_kept place (Ok one) is = is
  as_stop_kept place (Err why) is = tt

  argument_kept : (setting : CSetting) (place : Place) (number : ℕ) (value : CValue) (got : Got Ptr) → GotKept got → IfGiven GotKept (argument_stored setting place number value got)
  argument_kept setting place number value got p =
      given_then GotKept (as_stop place (shape_of setting number)) _ (λ shape.
      given_and (StoreKept P) GotKept
      (as_stop place (stored setting [] (blocks_of got.world) (unqualified shape.type) (designates (Pointer got.value)) value no_marks)) _
      (as_stop_kept place _ (store_kept P kept (blocks_of got.world) p setting [] (unqualified shape.type) (designates (Pointer got.value)) value no_marks))
      (λ one is. is))

-- ---- what makes one

-- what is said of a memory, and what is said of it behind a step: it holds where no block was made, and where one was that an object has, or
-- that an allocation gave
pub record IsGrown (setting : CSetting) (P Q : Blocks → Type 0) : Type 0 where
  pub kept : IsKept P
  pub kept_then : IsKept Q
  pub same : (blocks : Blocks) → P blocks → Q blocks
  pub by_object : (blocks : Blocks) (is_zero : Bool) (type : CTy) (laid : Laid) → extent_in setting type ≡ Some laid → P blocks
      → Q (with_block (fresh_block is_zero laid.size laid.align) blocks)
  pub by_allocation : (blocks : Blocks) (is_zero : Bool) (size : ℕ) → size ≤ most_bytes → P blocks → Q (with_block (fresh_block is_zero size heap_align) blocks)

-- what is needed is there
needed_given : {A : Type 0} (found : Option A) → IfGiven (λ (one : A). found ≡ Some one) (needed found)
needed_given None = tt
needed_given (Some one) = refl

as_stop_given : {A : Type 0} (Of : A → Type 0) (place : Place) (outcome : Result A CWhy) → IfGiven Of outcome → IfGiven Of (as_stop place outcome)
as_stop_given Of place (Ok one) is = is
as_stop_given Of place (Err why) is = tt

-- the size and the alignment that an object begins with are those of its type
abbrev IsShape : CSetting → CShape → Type 0
IsShape setting shape = extent_in setting shape.type ≡ Some shape.laid

shape_given : (setting : CSetting) (number : ℕ) → IfGiven (IsShape setting) (shape_of setting number)
shape_given setting number =
    given_then (IsShape setting) (needed (object_with number setting.program.objects)) _ (λ one.
    given_and (λ (laid : Laid). extent_in setting one.type ≡ Some laid) (IsShape setting) (needed (extent_in setting one.type)) _ (needed_given (extent_in setting one.type)) (λ laid is. is))

module _ (setting : CSetting) (P Q : Blocks → Type 0) (grown : IsGrown setting P Q) where
  -- ---- full expressions

  answered_grown : (state : CState) (work : CWork) (purpose : CPurpose) (outcome : COutcome) → OutcomeGrown Q outcome → OfState P state → OfState Q (answered_by state work purpose outcome)
  answered_grown state work purpose (Ok (returns_value value world)) is p = going_kept Q grown.kept_then state world _ purpose is
  answered_grown state work purpose (Ok (ends_with status world)) is p = is
  answered_grown state work purpose (Err stop) is p = grown.same (blocks_of state.world) p

  calling_grown : (state : CState) (work : CWork) (purpose : CPurpose) (called : CCalled) (callee : CCallee) → OfState P state → OfState Q (calling setting state work purpose called callee)
  calling_grown state work purpose called (defined one) p = grown.same (blocks_of state.world) p
  calling_grown state work purpose called (external one) p =
      answered_grown state work purpose (external_call setting called one state.world) (outside_grown P Q grown.kept grown.same grown.by_allocation setting called one state.world p) p

  stepped_grown : (state : CState) (purpose : CPurpose) (outcome : CStepped) → StepKept P outcome → OfState P state → OfState Q (after_step setting state purpose outcome)
  stepped_grown state purpose (Ok (did work blocks)) is p = grown.same _ (going_kept P grown.kept state _ work purpose is)
  stepped_grown state purpose (Ok (asks_call called work)) is p = calling_grown state work purpose called called.callee p
  stepped_grown state purpose (Err fault) is p = grown.same (blocks_of state.world) p

  evaluated_grown : (state : CState) (work : CWork) (purpose : CPurpose) → OfState P state → OfState Q (expression_step setting state work purpose)
  evaluated_grown state work purpose p =
      let one = picked state.order (ready work) in
      stepped_grown (record state { order = one.order }) purpose (step_at setting (frame_for state purpose) (blocks_of state.world) one.pick work)
      (step_kept P grown.kept (blocks_of state.world) p setting (frame_for state purpose) work one.pick) p

  -- ---- objects

  abbrev GotGrown : Got Ptr → Type 0
  GotGrown got = Q (blocks_of got.world)

  made_grown : (is_zero : Bool) (type : CTy) (laid : Laid) (world : World) (outcome : Result Blocks StoreFault) → extent_in setting type ≡ Some laid → P (blocks_of world)
      → IfGiven {E = CStop} GotGrown (begun_at is_zero laid.size laid.align world outcome)
  made_grown is_zero type laid world (Ok blocks) is p = grown.by_object (blocks_of world) is_zero type laid is p
  made_grown is_zero type laid world (Err (Full need left)) is p = tt
  made_grown is_zero type laid world (Err Memory) is p = tt

  object_grown : (is_zero : Bool) (type : CTy) (laid : Laid) (world : World) → extent_in setting type ≡ Some laid → P (blocks_of world) → IfGiven {E = CStop} GotGrown (object_begun is_zero laid.size laid.align world)
  object_grown is_zero type laid world is p = made_grown is_zero type laid world (after_alloc (limit_of world.terms) (blocks_of world) laid.size laid.align) is p

  begins_grown : (place : Place) (number : ℕ) (world : World) → P (blocks_of world) → IfGiven GotGrown (object_begins setting place number world)
  begins_grown place number world p =
      given_and (IsShape setting) GotGrown (as_stop place (shape_of setting number)) _ (as_stop_given (IsShape setting) place (shape_of setting number) (shape_given setting number))
      (λ shape is. object_grown false shape.type shape.laid world is p)

  began_grown : (state : CState) (one : CBeginning) (outcome : Result (Got Ptr) CStop) → IfGiven GotGrown outcome → OfState P state → OfState Q (after_begin setting state one outcome)
  began_grown state one (Ok got) is p =
      beginning_kept Q grown.kept_then setting one.others one.goal (with_slot (slot one.object got.value) one.level) one.outer (blocks_of got.world) is
  began_grown state one (Err stop) is p = grown.same (blocks_of state.world) p

  param_grown : (place : Place) (number : ℕ) (value : CValue) (world : World) → P (blocks_of world) → IfGiven GotGrown (param_begins setting place number value world)
  param_grown place number value world p =
      given_and GotGrown GotGrown (object_begins setting place number world) _ (begins_grown place number world p)
      (λ got is. argument_kept Q grown.kept_then setting place number value got is)

  took_grown : (state : CState) (callee : CFun) (number : ℕ) (params : List ℕ) (args : List CValue) (frame : Frame) (outcome : Result (Got Ptr) CStop) → IfGiven GotGrown outcome → OfState P state
      → OfState Q (after_param state callee number params args frame outcome)
  took_grown state callee number params args frame (Ok got) is p = is
  took_grown state callee number params args frame (Err stop) is p = grown.same (blocks_of state.world) p

  taken_grown : (state : CState) (callee : CFun) (params : List ℕ) (args : List CValue) (frame : Frame) → OfState P state → OfState Q (take_step setting state callee params args frame)
  taken_grown state callee [] args frame p = grown.same (blocks_of state.world) p
  taken_grown state callee (number ∷ params) [] frame p = grown.same (blocks_of state.world) p
  taken_grown state callee (number ∷ params) (value ∷ args) frame p =
      took_grown state callee number params args frame _ (param_grown (place_of_body callee.body) number value state.world p) p

  -- ---- static objects

  static_grown : (one : CObject) (world : World) → P (blocks_of world) → IfGiven GotGrown (static_begins setting one world)
  static_grown one world p =
      given_and (λ (laid : Laid). extent_in setting one.type ≡ Some laid) GotGrown (as_stop no_place (needed (extent_in setting one.type))) _
      (as_stop_given (λ (laid : Laid). extent_in setting one.type ≡ Some laid) no_place (needed (extent_in setting one.type)) (needed_given (extent_in setting one.type)))
      (λ laid is. object_grown true one.type laid world is p)

  begun_static_grown : (state : CState) (one : CObject) (others : List CObject) (outcome : Result (Got Ptr) CStop) → IfGiven GotGrown outcome → OfState P state → OfState Q (after_static setting state one others outcome)
  begun_static_grown state one others (Ok got) is p = is
  begun_static_grown state one others (Err stop) is p = grown.same (blocks_of state.world) p

  -- ---- steps

  moved_grown : (state : CState) (one : CMove) → OfState P state → OfState Q (move_step setting state one)
  moved_grown state (values value purpose) p = grown.same (blocks_of state.world) p
  moved_grown state (reaches one site) p = grown.same _ (reached_kept P grown.kept setting one site (blocks_of state.world) p)
  moved_grown state (begins one) p = began_grown state one (object_begins setting no_place one.object state.world) (begins_grown no_place one.object state.world p) p
  moved_grown state (leaves value site) p = grown.same _ (returning_kept P grown.kept state value site p)
  moved_grown state calls_main p = grown.same (blocks_of state.world) p
  moved_grown state (goes_nowhere place) p = grown.same (blocks_of state.world) p

  control_grown : (state : CState) (control : CControl) → OfState P state → OfState Q (step_of setting state control)
  control_grown state (begins_static one others) p = begun_static_grown state one others (static_begins setting one state.world) (static_grown one state.world p) p
  control_grown state (moves one) p = moved_grown state one p
  control_grown state (evaluates work purpose) p = evaluated_grown state work purpose p
  control_grown state (uses operand purpose) p = grown.same _ (used_kept P grown.kept setting state operand purpose p)
  control_grown state (takes one) p = taken_grown state one.callee one.params one.args one.frame p
  control_grown state (has_ended status) p = grown.same (blocks_of state.world) p
  control_grown state (has_stopped stop) p = grown.same (blocks_of state.world) p

  pub step_grown : (state : CState) → OfState P state → OfState Q (c_step setting state)
  step_grown state p = control_grown state state.control p
