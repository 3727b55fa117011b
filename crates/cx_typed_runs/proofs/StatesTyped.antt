-- Each step keeps a state typed, and no run is stuck (ISO C99, 3.4.3 and 5.1.2.3).
use Rattle.std.proofs.Common.{◌≡◌, inl, inr, refl, sym, ap, ◌∙◌, subst, ℕ, zero, suc, Bool, true, false, List, [], ◌∷◌, ◌++◌, Option, Some, None, IfSome, IsSome, find, cond, length, ◌<◌, arith}
use Rattle.std.specs.List.{Contains}
use Rattle.cr_base.specs.declared.refusal.Place.{Place}
use Rattle.cr_world.specs.Laws.{HeapLives}
use Rattle.cr_world.specs.World.{blocks_of, wrong, full, asks, astray}
use Rattle.cx_core.specs.declared.ty.Basic.TheVariants.{Int}
use Rattle.cx_core.specs.Linked.{IsLinked, home_of, is_main, main_of, HasNoParams, IsMainType}
use Rattle.cx_core.specs.Statements.{AreParams, AreParamsOf}
use Rattle.cx_core.specs.Trees.{CTy, CTyForm, void, basic, enum_type, pointer, array, record_type, function, CParams, unlisted, listed, CTys, no_types, more_types, form_of_type, CFun, CProgram}
use Rattle.cx_core.specs.Typing.{CHome}
use Rattle.cx_mean.specs.Moves.{CMove, values, reaches, begins, leaves, calls_main, goes_nowhere}
use Rattle.cx_mean.specs.Operands.{CWhy, breaks, stuck, CStop, Frame}
use Rattle.cx_mean.specs.Run.{c_run_on, c_start, c_after, progress_of_stop, progress_at}
use Rattle.cx_mean.specs.Settings.{setting_of}
use Rattle.cx_mean.specs.State.{CControl, begins_static, moves, evaluates, uses, takes, has_ended, has_stopped, CCaller, CState, at_control, main_called, move_step, step_of, c_step}
use Rattle.cx_typed_work.specs.Scenes.{IsTypedMemory}
use Rattle.cx_typed_work.specs.Steps.{IsRule}
use Rattle.cx_typed_runs.proofs.Begins.{begins_typed}
use Rattle.cx_typed_runs.proofs.Evaluating.{next_begins, begun_slots}
use Rattle.cx_typed_runs.proofs.Expressions.{expression_typed}
use Rattle.cx_typed_runs.proofs.FirstStates.{static_typed, runs_begin_typed}
use Rattle.cx_typed_runs.proofs.GoingOn.{AllStand, others_of, stand_typed}
use Rattle.cx_typed_runs.proofs.Moves.{moves_stand}
use Rattle.cx_typed_runs.proofs.Returns.{returning_typed}
use Rattle.cx_typed_runs.proofs.Taking.{IsAround, definition_of, taking_typed, take_typed}
use Rattle.cx_typed_runs.proofs.Uses.{use_typed}
use Rattle.cx_typed_runs.specs.Runs.{StatesStayTyped, HasNamedProgress, RunsAreNeverStuck}
use Rattle.cx_typed_runs.specs.Sites.{IsRunning, AreOwned}
use Rattle.cx_typed_runs.specs.States.{CRunning, in_function, before_main, IsMoveIn, IsFirstMove, AreCallers, AreBegun, StopsByRule, IsControl, AreForParams, slots_of_move, slots_of_control, IsTypedState}

-- ---- `main` (5.1.2.2.1)

no_list : (home : CHome) (numbers : List ℕ) → AreParams home numbers no_types → numbers ≡ []
no_list home [] are = refl
no_list home (number ∷ numbers) are = absurd are

no_params : (home : CHome) (numbers : List ℕ) (params : CParams) → HasNoParams params → AreParamsOf home numbers params → numbers ≡ []
no_params home numbers unlisted none are = are
no_params home numbers (listed types) none are = no_list home numbers (subst (AreParams home numbers) none are)

-- what it gives, and that it takes nothing
record IsMainOf (program : CProgram) (one : CFun) : Type 0 where
  result : CTy
  running : IsRunning program one result
  gives : form_of_type result ≡ basic Int
  takes_none : one.params ≡ []

main_by : (program : CProgram) (one : CFun) (form : CTyForm) → IsLinked program → Contains program.functions one → form_of_type one.type ≡ form → IsMainType form → IsMainOf program one
main_by program one (function result params variadic) linked there e is =
    let running : IsRunning program one result = record { defined = there; params = params; variadic = variadic; type_is = e } in
    record { result = result; running = running; gives = is.0; takes_none = no_params (home_of program None one.unit) one.params params is.1 (definition_of program one result linked running).params_are }
main_by program one void linked there e is = absurd is
main_by program one (basic which) linked there e is = absurd is
main_by program one (enum_type number) linked there e is = absurd is
main_by program one (pointer to) linked there e is = absurd is
main_by program one (array element length) linked there e is = absurd is
main_by program one (record_type number) linked there e is = absurd is

contains_later : (first : CFun) (others : List CFun) (one : CFun) → Contains others one → Contains (first ∷ others) one
contains_later first others one there = let below : there.0 < length others = there.1 in (suc there.0, omega (arith, below), there.2)

found_there : (test : CFun → Bool) (functions : List CFun) (one : CFun) → find test functions ≡ Some one → Contains functions one
found_there test [] one e = cc (e)
found_there test (first ∷ others) one e = by (test first) e (λ rest. found_there test others one rest)
  where
    by : (holds : Bool) → cond holds (Some first) (find test others) ≡ Some one → (find test others ≡ Some one → Contains others one) → Contains (first ∷ others) one
    by true found rest = let same : first ≡ one = cc (found) in (zero, omega arith, same)
    by false found rest = contains_later first others one (rest found)

main_typed : (program : CProgram) (state : CState) (found : Option CFun) → IsLinked program → main_of program ≡ found → IsTypedMemory program (blocks_of state.world) → HeapLives state.world.held
    → AreOwned program state.world.held (others_of state) → state.callers ≡ [] → AreBegun program [] state.statics → IsTypedState program (at_control state state.world (main_called found))
main_typed program state None linked e memory held owned callers begun_is = cc (subst IsSome e linked.main_defined)
main_typed program state (Some one) linked e memory held owned callers begun_is =
    let main = main_by program one (form_of_type one.type) linked (found_there is_main program.functions one e) refl (subst (λ found. IfSome found (λ o. IsMainType (form_of_type o.type))) e linked.main_typed) in
    taking_typed program one main.result state state.world one.params [] []
    (record { linked = linked; memory = memory; held = held; owned = owned; callers = subst (AreCallers program main.result) (sym callers) main.gives; begun = begun_is }) main.running refl
    (subst (λ params. AreForParams program params []) (sym main.takes_none) tt)

-- ---- moves

abbrev HasAround : CProgram → CState → Frame → Type 0
HasAround program state slots = AreOwned program state.world.held (slots ++ others_of state)

move_in : AllStand → (program : CProgram) (one : CFun) (result : CTy) (state : CState) (move : CMove) → IsAround program result state state.world (slots_of_move move) → IsMoveIn program one result move
    → IsTypedState program (move_step (setting_of program) state move)
move_in all program one result state (values node purpose) around is = record {
  memory = around.memory;
  held = around.held;
  owned = subst (HasAround program state) (sym (begun_slots node purpose)) around.owned;
  control = next_begins program (in_function one result) state.statics state.callers node purpose is around.callers around.begun;
}
move_in all program one result state (reaches reached site) around is =
    stand_typed program one result state state.world _
    ((all program one result).reached_it state.world.held (others_of state) site reached (record { linked = around.linked; at = is.0; memory = around.memory; allocated = around.held; owned = around.owned }) is.1) around.callers around.begun
move_in all program one result state (begins beginning) around is = begins_typed all program one result state beginning is around
move_in all program one result state (leaves value site) around is = returning_typed all program result state value site around is.1
move_in all program one result state calls_main around is = absurd is
move_in all program one result state (goes_nowhere place) around is = absurd is

move_first : (program : CProgram) (unit : ℕ) (state : CState) (move : CMove) → IsLinked program → IsTypedMemory program (blocks_of state.world) → HeapLives state.world.held → HasAround program state (slots_of_move move) → state.callers ≡ []
    → AreBegun program [] state.statics → IsFirstMove program unit move → IsTypedState program (move_step (setting_of program) state move)
move_first program unit state (values node purpose) linked memory held owned callers begun_is is = record {
  memory = memory;
  held = held;
  owned = subst (HasAround program state) (sym (begun_slots node purpose)) owned;
  control = next_begins program (before_main unit) state.statics state.callers node purpose is callers begun_is;
}
move_first program unit state calls_main linked memory held owned callers begun_is is = main_typed program state (main_of program) linked refl memory held owned callers begun_is
move_first program unit state (reaches reached site) linked memory held owned callers begun_is is = absurd is
move_first program unit state (begins beginning) linked memory held owned callers begun_is is = absurd is
move_first program unit state (leaves value site) linked memory held owned callers begun_is is = absurd is
move_first program unit state (goes_nowhere place) linked memory held owned callers begun_is is = absurd is

-- ---- steps

step_by : AllStand → (program : CProgram) (state : CState) (control : CControl) → IsLinked program → IsTypedState program state → HasAround program state (slots_of_control control) → IsControl program state.statics state.callers control
    → IsTypedState program (step_of (setting_of program) state control)
step_by all program state (begins_static one others) linked is owned control = static_typed program state one others linked is.memory is.held owned control.0 control.1 control.2
step_by all program state (moves move) linked is owned (in_function one result, moved, waiting, begun_is) =
    move_in all program one result state move (record { linked = linked; memory = is.memory; held = is.held; owned = owned; callers = waiting; begun = begun_is }) moved
step_by all program state (moves move) linked is owned (before_main unit, moved, waiting, begun_is) = move_first program unit state move linked is.memory is.held owned waiting begun_is moved
step_by all program state (evaluates work purpose) linked is owned (running, evaluated, waiting, begun_is) =
    expression_typed all program running state work purpose (record { linked = linked; memory = is.memory; held = is.held; owned = owned; callers = waiting; begun = begun_is }) evaluated
step_by all program state (uses operand purpose) linked is owned (running, used, waiting, begun_is) =
    use_typed all program running state operand purpose (record { linked = linked; memory = is.memory; held = is.held; owned = owned; callers = waiting; begun = begun_is }) used
step_by all program state (takes one) linked is owned (result, taking, waiting, begun_is) =
    take_typed program result state one taking (record { linked = linked; memory = is.memory; held = is.held; owned = owned; callers = waiting; begun = begun_is })
step_by all program state (has_ended status) linked is owned control = is
step_by all program state (has_stopped stop) linked is owned control = is

pub states_stay_typed : StatesStayTyped
states_stay_typed program state linked is = step_by moves_stand program state state.control linked is is.owned is.control

-- ---- runs

after_typed : (program : CProgram) (state : CState) (steps : ℕ) → IsLinked program → IsTypedState program state → IsTypedState program (c_after (setting_of program) steps state)
after_typed program state zero linked is = is
after_typed program state (suc steps) linked is = states_stay_typed program (c_after (setting_of program) steps state) linked (after_typed program state steps linked is)

named_fault : (why : CWhy) (place : Place) → IsRule why → HasNamedProgress (progress_of_stop (wrong (record { why = why; place = place })))
named_fault (breaks rule) place named = tt
named_fault stuck place named = absurd named

named_stop : (stop : CStop) → StopsByRule stop → HasNamedProgress (progress_of_stop stop)
named_stop (wrong fault) named = named_fault fault.why fault.place named
named_stop (full need left) named = tt
named_stop (asks call) named = tt
named_stop astray named = tt

named_at : (program : CProgram) (statics : Frame) (callers : List CCaller) (control : CControl) → IsControl program statics callers control → HasNamedProgress (progress_at control)
named_at program statics callers (begins_static one others) is = tt
named_at program statics callers (moves move) is = tt
named_at program statics callers (evaluates work purpose) is = tt
named_at program statics callers (uses operand purpose) is = tt
named_at program statics callers (takes one) is = tt
named_at program statics callers (has_ended status) is = tt
named_at program statics callers (has_stopped stop) is = named_stop stop is

pub runs_are_never_stuck : RunsAreNeverStuck
runs_are_never_stuck program order terms outside steps linked =
    let state = c_after (setting_of program) steps (c_start program order terms outside) in
    named_at program state.statics state.callers state.control
    (after_typed program (c_start program order terms outside) steps linked (runs_begin_typed program order terms outside linked)).control
