-- Functions that run, from any of their moves on, and whole programs, as the steps give them under the empty order.
use Rattle.std.proofs.Common.{◌≡◌, ℕ, zero, suc, ◌≤◌, ◌<◌, ℤ, true, false, List, [], ◌∷◌, ◌++◌, Option, Some, None, Result, Ok, Err, refl, ap, ◌∙◌, arith, le_trans, le_of_lt, lt_of_lt_of_le, not-suc-le-zero, subst, true≢false}
use Rattle.cr_base.specs.declared.refusal.Place.{Place}
use Rattle.cr_runs.specs.Runs.{came, bind}
use Rattle.cx_core.specs.Linked.{main_of}
use Rattle.cx_core.specs.Trees.{CTy, CExpr, expr, CForm, whole, null, object, code, CFun, CObject}
use Rattle.cr_world.specs.World.{Got, World, blocks_of, with_memory, first_world}
use Rattle.cx_mean.specs.Accesses.{CStored}
use Rattle.cx_mean.specs.Initialisers.{put_stored}
use Rattle.cx_mean.specs.Laws.{LeftmostIsRun}
use Rattle.cx_mean.specs.Leftmost.{CGoes, or_bad, or_stop, c_value, c_stand, c_use, c_params, c_called, c_main, c_move, c_goes, c_begins, c_shown}
use Rattle.cx_mean.specs.Marks.{no_marks}
use Rattle.cx_mean.specs.Moves.{CPutting, CPurpose, puts_it, drops_it, turns_on, gives_it, chooses_by, CBeginning, CMove, values, reaches, begins, leaves, calls_main, goes_nowhere, CStand, next_of, static_puts, putting, beginning, reached as reached_stand, turning_on}
use Rattle.cx_mean.specs.Operands.{CWhy, CStop, stops, stuck, CValue, COperand, with_marks, Frame}
use Rattle.cx_mean.specs.Paths.{CSite}
use Rattle.cx_mean.specs.Run.{seen_at, c_start}
use Rattle.cx_mean.specs.Settings.{CSetting, setting_of}
use Rattle.cx_mean.specs.State.{CCaller, CControl, begins_static, moves, uses, has_ended, evaluating, control_of, taking, given_back, status_in, ended_by, returned_to, after_return, own_frame, after_store, after_give, after_choice, value_given, choice_at, slot, with_slot, after_begin, object_begins, param_begins, after_param, place_of_body, after_static, static_begins, statics_in, beginning_statics, main_called, no_place}
use Rattle.cx_mean.specs.Work.{CWork, finished, begun, begun_form, is_finished, resumed}
use Rattle.mem_bytes.specs.declared.value.Ptr.{Ptr}
use Rattle.cx_mean.proofs.Around.{around_itself}
use Rattle.cx_mean.proofs.Contexts.{at_work, going_any, frame_in}
use Rattle.cx_mean.proofs.Reached.{standing, onward, after_onward, Reaches, reached, reaches_bind, reaches_bind_strict, reaches_tick, reaches_from, reaches_weak, reaches_bad, reaches_shows}
use Rattle.cx_mean.proofs.Finished.{back, CallsReach, least}
use Rattle.cx_mean.proofs.Values.{form_reaches}

-- a function runs from each move as it is said, within bounds less than this
abbrev pub GoesReach : CSetting → Frame → CGoes → ℕ → Type 0
GoesReach setting statics goes bound =
    (callers : List CCaller) (move : CMove) (world : World) (left : ℕ) → left < bound →
    Reaches setting 0 left (standing statics callers (control_of move) world) (goes move world left) (back statics callers)

ended_any : (statics : Frame) (callers : List CCaller) (control other : CControl) (before after world : World) (status : Result ℤ CWhy) →
    ended_by (standing statics callers control before) world status ≡ ended_by (standing statics callers other after) world status
ended_any statics callers control other before after world (Ok status) = refl
ended_any statics callers control other before after world (Err why) = refl

returned_any : (statics : Frame) (callers : List CCaller) (control : CControl) (before world : World) (value : CValue) →
    returned_to (standing statics callers control before) world value callers ≡ back statics callers value world
returned_any statics [] control before world value = ended_any statics [] control (moves calls_main) before world world (status_in value)
returned_any statics (caller ∷ others) control before world value =
    going_any statics others control before world caller.purpose (resumed value caller.work)

module _ (setting : CSetting) (statics : Frame) (goes : CGoes) (bound : ℕ) (goes_reach : GoesReach setting statics goes bound) where
  -- ---- calls

  param_reaches : (callers : List CCaller) (callee : CFun) (number : ℕ) (params : List ℕ) (args : List CValue) (frame : Frame) (control : CControl) (world : World) (left : ℕ) (outcome : Result (Got Ptr) CStop) →
      ((got : Got Ptr) → Reaches setting 0 left (standing statics callers (taking callee params args (frame ++ slot number got.value ∷ [])) got.world)
      (c_params setting goes callee params args (frame ++ slot number got.value ∷ []) got.world left) (back statics callers)) →
      Reaches setting 0 left (after_param (standing statics callers control world) callee number params args frame outcome)
      (or_stop outcome (λ got after more. c_params setting goes callee params args (frame ++ slot number got.value ∷ []) got.world more) world left) (back statics callers)
  param_reaches callers callee number params args frame control world left (Ok got) rest = rest got
  param_reaches callers callee number params args frame control world left (Err stop) rest =
      reaches_bad setting statics callers stop world left (back statics callers)

  params_reach : (callers : List CCaller) (callee : CFun) (params : List ℕ) (args : List CValue) (frame : Frame) (world : World) (left : ℕ) → left < bound →
      Reaches setting 0 left (standing statics callers (taking callee params args frame) world) (c_params setting goes callee params args frame world left) (back statics callers)
  params_reach callers callee [] args frame world left less = goes_reach callers _ world left less
  params_reach callers callee (number ∷ params) [] frame world left less =
      reaches_weak setting 1 left _ _ _
      (reaches_tick setting left (standing statics callers (taking callee (number ∷ params) [] frame) world) world _ (back statics callers) refl
      (λ more fewer. reaches_bad setting statics callers (stops stuck (place_of_body callee.body)) world more (back statics callers)))
  params_reach callers callee (number ∷ params) (value ∷ args) frame world left less =
      reaches_weak setting 1 left _ _ _
      (reaches_tick setting left (standing statics callers (taking callee (number ∷ params) (value ∷ args) frame) world) world _ (back statics callers) refl
      (λ more fewer. param_reaches callers callee number params args frame (taking callee (number ∷ params) (value ∷ args) frame) world more
      (param_begins setting (place_of_body callee.body) number value world)
      (λ got. params_reach callers callee params args (frame ++ slot number got.value ∷ []) got.world more (le_trans fewer (le_of_lt less)))))

  called_reach : CallsReach setting statics (c_called setting goes) bound
  called_reach callers callee args world left less = params_reach callers callee callee.params args [] world left less

  -- ---- uses of values

  stand_reaches : (callers : List CCaller) (one : CStand) (world : World) (left : ℕ) → left < bound →
      Reaches setting 0 left (standing statics callers (control_of one.move) (with_memory one.blocks world)) (c_stand goes one world left) (back statics callers)
  stand_reaches callers one world left less = goes_reach callers one.move (with_memory one.blocks world) left less

  stored_reaches : (callers : List CCaller) (control : CControl) (place : Place) (one : CPutting) (world : World) (left : ℕ) → left < bound → (outcome : Result CStored CWhy) →
      Reaches setting 0 left (after_store (standing statics callers control world) place one outcome)
      (or_bad place outcome (λ done. c_stand goes (putting one.object one.others one.behind done.blocks)) world left) (back statics callers)
  stored_reaches callers control place one world left less (Ok done) =
      stand_reaches callers (putting one.object one.others one.behind done.blocks) world left less
  stored_reaches callers control place one world left less (Err why) = reaches_bad setting statics callers (stops why place) world left (back statics callers)

  given_reaches : (callers : List CCaller) (control : CControl) (place : Place) (site : CSite) (world : World) (left : ℕ) (outcome : Result CValue CWhy) →
      Reaches setting 0 left (after_give (standing statics callers control world) place site outcome)
      (or_bad place outcome (λ value after. came (given_back value) (after_return site after)) world left) (back statics callers)
  given_reaches callers control place site world left (Ok value) =
      reaches_from setting left _ (back statics callers (given_back value) (after_return site world)) _ _
      (returned_any statics callers control world (after_return site world) (given_back value))
      (reached setting left (given_back value) (after_return site world) (back statics callers))
  given_reaches callers control place site world left (Err why) = reaches_bad setting statics callers (stops why place) world left (back statics callers)

  choice_reaches : (callers : List CCaller) (control : CControl) (place : Place) (world : World) (left : ℕ) → left < bound → (outcome : Result CStand CWhy) →
      Reaches setting 0 left (after_choice (standing statics callers control world) place outcome) (or_bad place outcome (c_stand goes) world left) (back statics callers)
  choice_reaches callers control place world left less (Ok one) = stand_reaches callers one world left less
  choice_reaches callers control place world left less (Err why) = reaches_bad setting statics callers (stops why place) world left (back statics callers)

  -- a finished value is used by a step of its own
  uses_reach : (callers : List CCaller) (purpose : CPurpose) (operand : COperand) (world : World) (left : ℕ) → left ≤ bound →
      Reaches setting 0 left (standing statics callers (uses operand purpose) world) (c_use setting statics goes true purpose operand world left) (back statics callers)
  uses_reach callers (puts_it place one) operand world left within =
      reaches_weak setting 1 left _ _ _
      (reaches_tick setting left (standing statics callers (uses operand (puts_it place one)) world) world _ (back statics callers) refl
      (λ more fewer. stored_reaches callers (uses operand (puts_it place one)) place one world more (le_trans fewer within)
      (put_stored setting (own_frame (puts_it place one) ++ statics) (blocks_of world) one.object one.spot one.type (with_marks no_marks operand))))
  uses_reach callers (drops_it site) operand world left within =
      reaches_weak setting 1 left _ _ _
      (reaches_tick setting left (standing statics callers (uses operand (drops_it site)) world) world _ (back statics callers) refl
      (λ more fewer. stand_reaches callers (next_of site (blocks_of world)) world more (le_trans fewer within)))
  uses_reach callers (turns_on site) operand world left within =
      reaches_weak setting 1 left _ _ _
      (reaches_tick setting left (standing statics callers (uses operand (turns_on site)) world) world _ (back statics callers) refl
      (λ more fewer. stand_reaches callers (turning_on site (blocks_of world)) world more (le_trans fewer within)))
  uses_reach callers (gives_it place site) operand world left within =
      reaches_weak setting 1 left _ _ _
      (reaches_tick setting left (standing statics callers (uses operand (gives_it place site)) world) world _ (back statics callers) refl
      (λ more fewer. given_reaches callers (uses operand (gives_it place site)) place site world more (value_given operand.value)))
  uses_reach callers (chooses_by place site) operand world left within =
      reaches_weak setting 1 left _ _ _
      (reaches_tick setting left (standing statics callers (uses operand (chooses_by place site)) world) world _ (back statics callers) refl
      (λ more fewer. choice_reaches callers (uses operand (chooses_by place site)) place world more (le_trans fewer within)
      (choice_at (blocks_of world) operand.value site.levels site.bottom)))

  -- the value of an expression that took steps is dropped without one
  drops_reach : (callers : List CCaller) (purpose : CPurpose) (operand : COperand) (world : World) (left : ℕ) → left < bound →
      Reaches setting 0 left (at_work statics callers purpose (finished operand) world) (c_use setting statics goes false purpose operand world left) (back statics callers)
  drops_reach callers (puts_it place one) operand world left less = uses_reach callers (puts_it place one) operand world left (le_of_lt less)
  drops_reach callers (drops_it site) operand world left less = stand_reaches callers (next_of site (blocks_of world)) world left less
  drops_reach callers (turns_on site) operand world left less = stand_reaches callers (turning_on site (blocks_of world)) world left less
  drops_reach callers (gives_it place site) operand world left less = uses_reach callers (gives_it place site) operand world left (le_of_lt less)
  drops_reach callers (chooses_by place site) operand world left less = uses_reach callers (chooses_by place site) operand world left (le_of_lt less)

  -- ---- full expressions

  evaluating_work : (callers : List CCaller) (purpose : CPurpose) (work : CWork) (world : World) → is_finished work ≡ false →
      standing statics callers (evaluating work purpose) world ≡ at_work statics callers purpose work world
  evaluating_work callers purpose (finished operand) world not = absurd (true≢false not)
  evaluating_work callers purpose work world not = refl

  unfinished_reaches : (callers : List CCaller) (purpose : CPurpose) (type : CTy) (place : Place) (form : CForm) → least form ≡ 1 → is_finished (begun_form type place form) ≡ false →
      (world : World) (left : ℕ) → left ≤ bound →
      Reaches setting 0 left (standing statics callers (evaluating (begun_form type place form) purpose) world)
      (bind (c_value setting (c_called setting goes) (frame_in statics purpose) (expr type place form) world left) (c_use setting statics goes false purpose)) (back statics callers)
  unfinished_reaches callers purpose type place form takes not world left within =
      reaches_bind_strict setting left _ _ _ _ _
      (reaches_from setting left _ (at_work statics callers purpose (begun_form type place form) world) _ _
      (evaluating_work callers purpose (begun_form type place form) world not)
      (subst (λ (k : ℕ). Reaches setting k left (at_work statics callers purpose (begun_form type place form) world)
      (c_value setting (c_called setting goes) (frame_in statics purpose) (expr type place form) world left)
      (λ operand after. at_work statics callers purpose (finished operand) after)) takes
      (form_reaches setting statics (c_called setting goes) bound called_reach callers purpose (λ work. work) around_itself type place form world left within)))
      (λ operand after more fewer. drops_reach callers purpose operand after more (lt_of_lt_of_le fewer within))

  value_reaches_back : (callers : List CCaller) (purpose : CPurpose) (e : CExpr) (world : World) (left : ℕ) → left ≤ bound →
      Reaches setting 0 left (standing statics callers (evaluating (begun e) purpose) world) (c_move setting statics goes (values e purpose) world left) (back statics callers)
  value_reaches_back callers purpose (expr type place (whole number)) world left within = uses_reach callers purpose _ world left within
  value_reaches_back callers purpose (expr type place null) world left within = uses_reach callers purpose _ world left within
  value_reaches_back callers purpose (expr type place (object number)) world left within = uses_reach callers purpose _ world left within
  value_reaches_back callers purpose (expr type place (code number)) world left within = uses_reach callers purpose _ world left within
  value_reaches_back callers purpose (expr type place form) world left within = unfinished_reaches callers purpose type place form refl refl world left within

  -- ---- moves

  begun_reaches : (callers : List CCaller) (control : CControl) (one : CBeginning) (world : World) (left : ℕ) → left < bound → (outcome : Result (Got Ptr) CStop) →
      Reaches setting 0 left (after_begin setting (standing statics callers control world) one outcome)
      (or_stop outcome (λ got after more. c_stand goes
      (beginning setting one.others one.goal (with_slot (slot one.object got.value) one.level) one.outer (blocks_of got.world)) got.world more) world left) (back statics callers)
  begun_reaches callers control one world left less (Ok got) =
      stand_reaches callers (beginning setting one.others one.goal (with_slot (slot one.object got.value) one.level) one.outer (blocks_of got.world)) got.world left less
  begun_reaches callers control one world left less (Err stop) = reaches_bad setting statics callers stop world left (back statics callers)

  main_reaches : (callers : List CCaller) (found : Option CFun) (world : World) (left : ℕ) → left < bound →
      Reaches setting 0 left (standing statics callers (main_called found) world) (c_main setting goes found world left) (back statics callers)
  main_reaches callers None world left less = reaches_bad setting statics callers (stops stuck no_place) world left (back statics callers)
  main_reaches callers (Some one) world left less = params_reach callers one one.params [] [] world left less

  pub move_reaches : (callers : List CCaller) (move : CMove) (world : World) (left : ℕ) → left ≤ bound →
      Reaches setting 0 left (standing statics callers (control_of move) world) (c_move setting statics goes move world left) (back statics callers)
  move_reaches callers (values e purpose) world left within = value_reaches_back callers purpose e world left within
  move_reaches callers (reaches one site) world left within =
      reaches_weak setting 1 left _ _ _
      (reaches_tick setting left (standing statics callers (moves (reaches one site)) world) world _ (back statics callers) refl
      (λ more fewer. stand_reaches callers (reached_stand setting one site (blocks_of world)) world more (le_trans fewer within)))
  move_reaches callers (begins one) world left within =
      reaches_weak setting 1 left _ _ _
      (reaches_tick setting left (standing statics callers (moves (begins one)) world) world _ (back statics callers) refl
      (λ more fewer. begun_reaches callers (moves (begins one)) one world more (le_trans fewer within) (object_begins setting no_place one.object world)))
  move_reaches callers (leaves value site) world left within =
      reaches_weak setting 1 left _ _ _
      (reaches_tick setting left (standing statics callers (moves (leaves value site)) world) world _ (back statics callers) refl
      (λ more fewer. reaches_from setting more _ (back statics callers (given_back value) (after_return site world)) _ _
      (returned_any statics callers (moves (leaves value site)) world (after_return site world) (given_back value))
      (reached setting more (given_back value) (after_return site world) (back statics callers))))
  move_reaches callers calls_main world left within =
      reaches_weak setting 1 left _ _ _
      (reaches_tick setting left (standing statics callers (moves calls_main) world) world _ (back statics callers) refl
      (λ more fewer. main_reaches callers (main_of setting.program) world more (le_trans fewer within)))
  move_reaches callers (goes_nowhere place) world left within = reaches_bad setting statics callers (stops stuck place) world left (back statics callers)

-- whatever is left of the moves that may be made is more than what is left of the steps
goes_within : (setting : CSetting) (statics : Frame) (fuel : ℕ) → GoesReach setting statics (c_goes setting statics fuel) fuel
goes_within setting statics zero callers move world left less = absurd (not-suc-le-zero less)
goes_within setting statics (suc fuel) callers move world left less =
    let within : left ≤ fuel = omega (less, arith) in
    move_reaches setting statics (c_goes setting statics fuel) fuel (goes_within setting statics fuel) callers move world left within

-- ---- programs

end_reaches : (setting : CSetting) (statics : Frame) (world : World) (left : ℕ) (status : Result ℤ CWhy) →
    Reaches setting 0 left (ended_by (standing statics [] (moves calls_main) world) world status) (or_bad no_place status came world left)
    (λ status world. standing statics [] (has_ended status) world)
end_reaches setting statics world left (Ok status) = reached setting left status world (λ status world. standing statics [] (has_ended status) world)
end_reaches setting statics world left (Err why) =
    reaches_bad setting statics [] (stops why no_place) world left (λ status world. standing statics [] (has_ended status) world)

static_shows : (setting : CSetting) (fuel : ℕ) (one : CObject) (others : List CObject) (statics : Frame) (world : World) (steps : ℕ) (outcome : Result (Got Ptr) CStop) →
    ((more : Frame) (after : World) →
    seen_at (onward setting steps (standing more [] (beginning_statics others (statics_in setting.program.objects)) after))
    ≡ c_shown (c_begins setting fuel others more after steps)) →
    seen_at (onward setting steps (after_static setting (standing statics [] (begins_static one others) world) one others outcome))
    ≡ c_shown (or_stop outcome (λ got after more. c_begins setting fuel others (statics ++ slot one.object got.value ∷ []) got.world more) world steps)
static_shows setting fuel one others statics world steps (Ok got) rest = rest (statics ++ slot one.object got.value ∷ []) got.world
static_shows setting fuel one others statics world steps (Err stop) rest =
    reaches_shows setting statics [] steps _ _ (reaches_bad setting statics [] stop world steps (λ status after. standing statics [] (has_ended status) after))

begins_show : (setting : CSetting) (fuel : ℕ) (objects : List CObject) (statics : Frame) (world : World) (steps : ℕ) → steps < fuel →
    seen_at (onward setting steps (standing statics [] (beginning_statics objects (statics_in setting.program.objects)) world))
    ≡ c_shown (c_begins setting fuel objects statics world steps)
begins_show setting fuel [] statics world steps less =
    reaches_shows setting statics [] steps _ _
    (reaches_bind setting steps _ _ _ _ _
    (goes_within setting statics fuel [] (static_puts (statics_in setting.program.objects)) world steps less)
    (λ value after left fewer. end_reaches setting statics after left (status_in value)))
begins_show setting fuel (one ∷ others) statics world zero less = refl
begins_show setting fuel (one ∷ others) statics world (suc steps) less =
    static_shows setting fuel one others statics world steps (static_begins setting one world)
    (λ more after. begins_show setting fuel others more after steps (le_of_lt less))

-- what is seen of a run under the empty order is what the leftmost run as a function shows
pub leftmost_is_run : LeftmostIsRun
leftmost_is_run program terms outside steps =
    ap seen_at (after_onward (setting_of program) steps (c_start program [] terms outside))
    ∙ begins_show (setting_of program) (suc steps) (statics_in program.objects) [] (first_world terms outside) steps (omega arith)
