-- Each step of a program that stands in some units leaves a state that stands there (ISO C99, 5.1.2.3): so a run that goes no further
-- because its next step has no meaning stopped at a place of these units.
use Rattle.std.proofs.Common.{◌≡◌, ℕ, zero, suc, Bool, true, false, ℤ, All, List, [], ◌∷◌, IfSome, Option, Some, None, Result, Ok, Err, subst}
use Rattle.std.proofs.lemmas.List.Elements.{All-cons, All-head, All-tail}
use Rattle.cr_base.specs.declared.refusal.Place.{Place}
use Rattle.cr_base.specs.declared.rule.URule.{URule}
use Rattle.cr_world.specs.World.{Got, World, blocks_of, wrong, full, asks, astray}
use Rattle.cx_core.specs.Linked.{main_of, is_main}
use Rattle.cx_core.specs.Trees.{CPuts, CStmt, stmt, CObject, CFun}
use Rattle.cx_mean.proofs.KeptNodes.{IfGiven, given_then}
use Rattle.cx_mean.specs.Accesses.{CStored}
use Rattle.cx_mean.specs.Calls.{CCallee, defined, external, CCalled, returns_value, ends_with, COutcome, external_call}
use Rattle.cx_mean.specs.Moves.{CPutting, CPurpose, puts_it, drops_it, turns_on, gives_it, chooses_by, CBeginning, CMove, values, reaches, begins, leaves, calls_main, goes_nowhere, CStand, static_puts, is_switch}
use Rattle.cx_mean.specs.Nodes.{truth_of_value}
use Rattle.cx_mean.specs.Operands.{CWhy, breaks, stuck, CStop, stops, CValue, COperand, Frame, scalar_value}
use Rattle.cx_mean.specs.Paths.{CLevel, CBottom, CSite}
use Rattle.cx_mean.specs.Run.{undefined, progress_of_stop, progress_at, c_start, c_after}
use Rattle.cx_mean.specs.Settings.{CSetting, setting_of}
use Rattle.cx_mean.specs.State.{CCaller, CControl, begins_static, moves, evaluates, uses, takes, has_ended, has_stopped, CState, evaluating, control_of, at_stand, finished_for, going_on, taking, answered_by, calling, ended_by, status_in, given_back, returned_to, after_return, returning, frame_for, after_step, expression_step, after_store, value_given, after_give, choice_made, choice_at, after_choice, use_step, object_begins, with_slot, slot, after_begin, after_param, place_of_body, take_step, statics_in, statics_first, beginning_statics, static_begins, after_static, no_place, main_called, move_step, step_of, c_step}
use Rattle.cx_mean.specs.Steps.{did, asks_call, CStepped, step_at, picked}
use Rattle.cx_mean.specs.Values.{number_in}
use Rattle.cx_mean.specs.Work.{CWork, finished, needs, chooses, tests, carries, updates, fills, waits, begun, resumed, ready}
use Rattle.mem_bytes.specs.declared.value.Ptr.{Ptr}
use Rattle.mem_bytes.specs.Memory.{Blocks}
use Rattle.cx_placed.specs.Places.{StmtStandsIn, ObjectStandsIn, FunctionStandsIn, StandIn}
use Rattle.cx_stops.proofs.Moves.{NextStandsIn, statics_stand, next_stands, putting_stands, beginning_stands, reached_stands, choosing_stands, switching_stands, turning_on_stands}
use Rattle.cx_stops.proofs.Nodes.{found_stands, begun_stands}
use Rattle.cx_stops.proofs.Outside.{begins_stands, param_stands, static_stands, outside_stands}
use Rattle.cx_stops.proofs.Standing.{WorkStandsIn, CalleeStandsIn, StepStandsIn, LevelsStandIn, PurposeStandsIn, MoveStandsIn, StopStandsIn, EndStandsIn, ControlStandsIn, CallersStandIn, StateStandsIn}
use Rattle.cx_stops.proofs.Steps.{resumed_stands, step_stands}
use Rattle.cx_stops.specs.Runs.{UndefinedStepsStandAmong, UndefinedStepsStandInUnits}

-- ---- static objects

statics_kept : (P : CObject → Type 0) (all : List CObject) → All P all → All P (statics_in all)
statics_kept P [] are = are
statics_kept P (one ∷ others) are = by_puts one.puts (statics_kept P others (All-tail P one others are))
  where
    by_puts : (puts : Option CPuts) → All P (statics_in others) → All P (statics_first one puts (statics_in others))
    by_puts None rest = rest
    by_puts (Some puts) rest = All-cons P one (statics_in others) (All-head P one others are) rest

module _ (Among : ℕ → Type 0) where
  -- ---- what is next

  evaluating_stands : (work : CWork) (purpose : CPurpose) → WorkStandsIn Among work → PurposeStandsIn Among purpose → ControlStandsIn Among (evaluating work purpose)
  evaluating_stands (finished operand) purpose is fits = fits
  evaluating_stands (needs node operands) purpose is fits = (is, fits)
  evaluating_stands (chooses node first) purpose is fits = (is, fits)
  evaluating_stands (tests node marks second) purpose is fits = (is, fits)
  evaluating_stands (carries node marks part) purpose is fits = (is, fits)
  evaluating_stands (updates node update stage marks) purpose is fits = (is, fits)
  evaluating_stands (fills node marks one others value) purpose is fits = (is, fits)
  evaluating_stands (waits node marks) purpose is fits = (is, fits)

  move_stands : (one : CMove) → MoveStandsIn Among one → ControlStandsIn Among (control_of one)
  move_stands (values value purpose) is = evaluating_stands (begun value) purpose (begun_stands Among value is.0) is.1
  move_stands (reaches one site) is = is
  move_stands (begins one) is = is
  move_stands (leaves value site) is = is
  move_stands calls_main is = tt
  move_stands (goes_nowhere place) is = is

  stand_stands : (state : CState) (world : World) (one : CStand) → NextStandsIn Among one → CallersStandIn Among state.callers → StateStandsIn Among (at_stand state world one)
  stand_stands state world one is callers = record { control = move_stands one.move is; callers = callers }

  finished_stands : (state : CState) (world : World) (operand : COperand) (purpose : CPurpose) → PurposeStandsIn Among purpose → CallersStandIn Among state.callers → StateStandsIn Among (finished_for state world operand purpose)
  finished_stands state world operand (drops_it site) fits callers = stand_stands state world _ (next_stands Among site.levels site.bottom (blocks_of world) fits) callers
  finished_stands state world operand (turns_on site) fits callers = stand_stands state world _ (turning_on_stands Among site (blocks_of world) fits) callers
  finished_stands state world operand (puts_it place one) fits callers = record { control = fits; callers = callers }
  finished_stands state world operand (gives_it place site) fits callers = record { control = fits; callers = callers }
  finished_stands state world operand (chooses_by place site) fits callers = record { control = fits; callers = callers }

  going_stands : (state : CState) (world : World) (work : CWork) (purpose : CPurpose) → WorkStandsIn Among work → PurposeStandsIn Among purpose → CallersStandIn Among state.callers
      → StateStandsIn Among (going_on state world work purpose)
  going_stands state world (finished operand) purpose is fits callers = finished_stands state world operand purpose fits callers
  going_stands state world (needs node operands) purpose is fits callers = record { control = (is, fits); callers = callers }
  going_stands state world (chooses node first) purpose is fits callers = record { control = (is, fits); callers = callers }
  going_stands state world (tests node marks second) purpose is fits callers = record { control = (is, fits); callers = callers }
  going_stands state world (carries node marks part) purpose is fits callers = record { control = (is, fits); callers = callers }
  going_stands state world (updates node update stage marks) purpose is fits callers = record { control = (is, fits); callers = callers }
  going_stands state world (fills node marks one others value) purpose is fits callers = record { control = (is, fits); callers = callers }
  going_stands state world (waits node marks) purpose is fits callers = record { control = (is, fits); callers = callers }

  -- ---- calls and returns

  body_place : (body : CStmt) → StmtStandsIn Among body → Among (place_of_body body).unit
  body_place (stmt place objects form) stands = stands.0

  taking_stands : (one : CFun) (params : List ℕ) (args : List CValue) (frame : Frame) → FunctionStandsIn Among one → ControlStandsIn Among (taking one params args frame)
  taking_stands one [] args frame stands = (stands, tt)
  taking_stands one (first ∷ others) args frame stands = stands

  answered_stands : (state : CState) (work : CWork) (purpose : CPurpose) (outcome : COutcome) → EndStandsIn Among outcome → WorkStandsIn Among work → PurposeStandsIn Among purpose → CallersStandIn Among state.callers
      → StateStandsIn Among (answered_by state work purpose outcome)
  answered_stands state work purpose (Ok (returns_value value world)) end is fits callers = going_stands state world (resumed value work) purpose (resumed_stands Among value work is) fits callers
  answered_stands state work purpose (Ok (ends_with status world)) end is fits callers = record { control = tt; callers = callers }
  answered_stands state work purpose (Err stop) end is fits callers = record { control = end; callers = callers }

  calling_stands : (setting : CSetting) (state : CState) (work : CWork) (purpose : CPurpose) (called : CCalled) (callee : CCallee) → Among called.place.unit → CalleeStandsIn Among callee → WorkStandsIn Among work
      → PurposeStandsIn Among purpose → CallersStandIn Among state.callers → StateStandsIn Among (calling setting state work purpose called callee)
  calling_stands setting state work purpose called (defined one) here stands is fits callers = record { control = taking_stands one one.params _ [] stands; callers = (is, fits, callers) }
  calling_stands setting state work purpose called (external one) here stands is fits callers =
      answered_stands state work purpose (external_call setting called one state.world) (outside_stands Among setting called one state.world here) is fits callers

  ended_stands : (state : CState) (world : World) (status : Result ℤ CWhy) → Among 0 → CallersStandIn Among state.callers → StateStandsIn Among (ended_by state world status)
  ended_stands state world (Ok status) here callers = record { control = tt; callers = callers }
  ended_stands state world (Err why) here callers = record { control = here; callers = callers }

  returned_stands : (state : CState) (world : World) (value : CValue) (waiting : List CCaller) → Among 0 → CallersStandIn Among state.callers → CallersStandIn Among waiting → StateStandsIn Among (returned_to state world value waiting)
  returned_stands state world value [] here callers are = ended_stands state world (status_in value) here callers
  returned_stands state world value (caller ∷ others) here callers are =
      going_stands (record state { callers = others }) world (resumed value caller.work) caller.purpose (resumed_stands Among value caller.work are.0) are.1 are.2

  returning_stands : (state : CState) (value : CValue) (site : CSite) → Among 0 → CallersStandIn Among state.callers → StateStandsIn Among (returning state value site)
  returning_stands state value site here callers = returned_stands state (after_return site state.world) (given_back value) state.callers here callers callers

  -- ---- steps of full expressions

  stepped_stands : (setting : CSetting) (state : CState) (purpose : CPurpose) (outcome : CStepped) → StepStandsIn Among outcome → PurposeStandsIn Among purpose → CallersStandIn Among state.callers
      → StateStandsIn Among (after_step setting state purpose outcome)
  stepped_stands setting state purpose (Ok (did work blocks)) is fits callers = going_stands state _ work purpose is fits callers
  stepped_stands setting state purpose (Ok (asks_call called work)) is fits callers = calling_stands setting state work purpose called called.callee is.0 is.1 is.2 fits callers
  stepped_stands setting state purpose (Err fault) is fits callers = record { control = is; callers = callers }

  evaluated_stands : (setting : CSetting) (state : CState) (work : CWork) (purpose : CPurpose) → All (FunctionStandsIn Among) setting.program.functions → WorkStandsIn Among work → PurposeStandsIn Among purpose
      → CallersStandIn Among state.callers → StateStandsIn Among (expression_step setting state work purpose)
  evaluated_stands setting state work purpose functions is fits callers =
      let one = picked state.order (ready work) in
      stepped_stands setting (record state { order = one.order }) purpose (step_at setting (frame_for state purpose) (blocks_of state.world) one.pick work)
      (step_stands Among setting functions (frame_for state purpose) (blocks_of state.world) work one.pick is) fits callers

  -- ---- uses of finished values

  stored_stands : (state : CState) (place : Place) (one : CPutting) (outcome : Result CStored CWhy) → PurposeStandsIn Among (puts_it place one) → CallersStandIn Among state.callers → StateStandsIn Among (after_store state place one outcome)
  stored_stands state place one (Ok done) fits callers = stand_stands state state.world _ (putting_stands Among one.object one.others one.behind done.blocks fits.1 fits.2) callers
  stored_stands state place one (Err why) fits callers = record { control = fits.0; callers = callers }

  gave_stands : (state : CState) (place : Place) (site : CSite) (outcome : Result CValue CWhy) → Among 0 → Among place.unit → CallersStandIn Among state.callers → StateStandsIn Among (after_give state place site outcome)
  gave_stands state place site (Ok value) first here callers = returning_stands state value site first callers
  gave_stands state place site (Err why) first here callers = record { control = here; callers = callers }

  made_choice_stands : (chooses_one : Bool) (blocks : Blocks) (value : CValue) (level : CLevel) (outer : List CLevel) (bottom : CBottom) → LevelsStandIn Among (level ∷ outer)
      → IfGiven (NextStandsIn Among) (choice_made chooses_one blocks value level outer bottom)
  made_choice_stands true blocks value level outer bottom are =
      given_then (NextStandsIn Among) (scalar_value value) _ (λ one.
      given_then (NextStandsIn Among) (number_in one) _ (λ number. switching_stands Among level.form number level outer bottom blocks are.0 are.0 are.2))
  made_choice_stands false blocks value level outer bottom are =
      given_then (NextStandsIn Among) (truth_of_value blocks value) _ (λ holds. choosing_stands Among level.form holds level outer bottom blocks are.0 are.0 are.2)

  choice_stands : (blocks : Blocks) (value : CValue) (levels : List CLevel) (bottom : CBottom) → LevelsStandIn Among levels → IfGiven (NextStandsIn Among) (choice_at blocks value levels bottom)
  choice_stands blocks value [] bottom are = tt
  choice_stands blocks value (level ∷ outer) bottom are = made_choice_stands (is_switch level.form) blocks value level outer bottom are

  chose_stands : (state : CState) (place : Place) (outcome : Result CStand CWhy) → IfGiven (NextStandsIn Among) outcome → Among place.unit → CallersStandIn Among state.callers → StateStandsIn Among (after_choice state place outcome)
  chose_stands state place (Ok one) is here callers = stand_stands state state.world one is callers
  chose_stands state place (Err why) is here callers = record { control = here; callers = callers }

  used_stands : (setting : CSetting) (state : CState) (operand : COperand) (purpose : CPurpose) → Among 0 → PurposeStandsIn Among purpose → CallersStandIn Among state.callers → StateStandsIn Among (use_step setting state operand purpose)
  used_stands setting state operand (puts_it place one) first fits callers = stored_stands state place one _ fits callers
  used_stands setting state operand (drops_it site) first fits callers = finished_stands state state.world operand (drops_it site) fits callers
  used_stands setting state operand (turns_on site) first fits callers = finished_stands state state.world operand (turns_on site) fits callers
  used_stands setting state operand (gives_it place site) first fits callers = gave_stands state place site (value_given operand.value) first fits.0 callers
  used_stands setting state operand (chooses_by place site) first fits callers =
      chose_stands state place (choice_at (blocks_of state.world) operand.value site.levels site.bottom) (choice_stands (blocks_of state.world) operand.value site.levels site.bottom fits.1) fits.0 callers

  -- ---- lives of objects

  began_stands : (setting : CSetting) (state : CState) (one : CBeginning) (outcome : Result (Got Ptr) CStop) → EndStandsIn Among outcome → MoveStandsIn Among (begins one) → CallersStandIn Among state.callers
      → StateStandsIn Among (after_begin setting state one outcome)
  began_stands setting state one (Ok got) end is callers =
      stand_stands state got.world _ (beginning_stands Among setting one.others one.goal (with_slot (slot one.object got.value) one.level) one.outer (blocks_of got.world) is.3 is.0 is.1 is.2) callers
  began_stands setting state one (Err stop) end is callers = record { control = end; callers = callers }

  took_stands : (state : CState) (callee : CFun) (number : ℕ) (params : List ℕ) (args : List CValue) (frame : Frame) (outcome : Result (Got Ptr) CStop) → EndStandsIn Among outcome → FunctionStandsIn Among callee
      → CallersStandIn Among state.callers → StateStandsIn Among (after_param state callee number params args frame outcome)
  took_stands state callee number params args frame (Ok got) end stands callers = record { control = taking_stands callee params args _ stands; callers = callers }
  took_stands state callee number params args frame (Err stop) end stands callers = record { control = end; callers = callers }

  taken_stands : (setting : CSetting) (state : CState) (callee : CFun) (params : List ℕ) (args : List CValue) (frame : Frame) → FunctionStandsIn Among callee → CallersStandIn Among state.callers
      → StateStandsIn Among (take_step setting state callee params args frame)
  taken_stands setting state callee [] args frame stands callers = record { control = body_place callee.body stands; callers = callers }
  taken_stands setting state callee (number ∷ params) [] frame stands callers = record { control = body_place callee.body stands; callers = callers }
  taken_stands setting state callee (number ∷ params) (value ∷ args) frame stands callers =
      took_stands state callee number params args frame _ (param_stands Among setting (place_of_body callee.body) number value state.world (body_place callee.body stands)) stands callers

  statics_begin_stand : (others all : List CObject) → All (ObjectStandsIn Among) all → ControlStandsIn Among (beginning_statics others all)
  statics_begin_stand [] all are = move_stands (static_puts all) (statics_stand Among all are)
  statics_begin_stand (one ∷ others) all are = tt

  begun_static_stands : (setting : CSetting) (state : CState) (one : CObject) (others : List CObject) (outcome : Result (Got Ptr) CStop) → EndStandsIn Among outcome → All (ObjectStandsIn Among) setting.program.objects
      → CallersStandIn Among state.callers → StateStandsIn Among (after_static setting state one others outcome)
  begun_static_stands setting state one others (Ok got) end objects callers =
      record { control = statics_begin_stand others (statics_in setting.program.objects) (statics_kept (ObjectStandsIn Among) setting.program.objects objects); callers = callers }
  begun_static_stands setting state one others (Err stop) end objects callers = record { control = end; callers = callers }

  -- ---- steps

  main_stands : (found : Option CFun) → IfSome found (FunctionStandsIn Among) → Among 0 → ControlStandsIn Among (main_called found)
  main_stands None stands first = first
  main_stands (Some one) stands first = taking_stands one one.params [] [] stands

  module _ (setting : CSetting) (all : StandIn Among setting.program.objects setting.program.functions) (first : Among 0) where
    moved_stands : (state : CState) (one : CMove) → MoveStandsIn Among one → CallersStandIn Among state.callers → StateStandsIn Among (move_step setting state one)
    moved_stands state (values value purpose) is callers = record { control = evaluating_stands (begun value) purpose (begun_stands Among value is.0) is.1; callers = callers }
    moved_stands state (reaches one site) is callers = stand_stands state state.world _ (reached_stands Among setting one site (blocks_of state.world) is.0 is.1) callers
    moved_stands state (begins one) is callers = began_stands setting state one (object_begins setting no_place one.object state.world) (begins_stands Among setting no_place one.object state.world first) is callers
    moved_stands state (leaves value site) is callers = returning_stands state value site first callers
    moved_stands state calls_main is callers =
        record { control = main_stands (main_of setting.program) (found_stands (FunctionStandsIn Among) is_main setting.program.functions all.functions_stand) first; callers = callers }
    moved_stands state (goes_nowhere place) is callers = record { control = is; callers = callers }

    control_stands : (state : CState) (control : CControl) → ControlStandsIn Among control → CallersStandIn Among state.callers → StateStandsIn Among state → StateStandsIn Among (step_of setting state control)
    control_stands state (begins_static one others) is callers same =
        begun_static_stands setting state one others (static_begins setting one state.world) (static_stands Among setting one state.world first) all.objects_stand callers
    control_stands state (moves one) is callers same = moved_stands state one is callers
    control_stands state (evaluates work purpose) is callers same = evaluated_stands setting state work purpose all.functions_stand is.0 is.1 callers
    control_stands state (uses operand purpose) is callers same = used_stands setting state operand purpose first is callers
    control_stands state (takes one) is callers same = taken_stands setting state one.callee one.params one.args one.frame is callers
    control_stands state (has_ended status) is callers same = same
    control_stands state (has_stopped stop) is callers same = same

    pub state_stands : (state : CState) → StateStandsIn Among state → StateStandsIn Among (c_step setting state)
    state_stands state is = control_stands state state.control is.control is.callers is

    pub run_stands : (state : CState) (steps : ℕ) → StateStandsIn Among state → StateStandsIn Among (c_after setting steps state)
    run_stands state zero is = is
    run_stands state (suc steps) is = state_stands (c_after setting steps state) (run_stands state steps is)

  -- ---- what is seen of a run

  broke_at : (why : CWhy) (place : Place) (rule : URule) (unit line : ℕ) → Among place.unit → progress_of_stop (stops why place) ≡ undefined rule unit line → Among unit
  broke_at (breaks broken) place rule unit line is e = let same : place.unit ≡ unit = cc (e) in subst Among same is
  broke_at stuck place rule unit line is e = cc (e)

  stopped_at : (stop : CStop) (rule : URule) (unit line : ℕ) → StopStandsIn Among stop → progress_of_stop stop ≡ undefined rule unit line → Among unit
  stopped_at (wrong fault) rule unit line is e = broke_at fault.why fault.place rule unit line is e
  stopped_at (full need left) rule unit line is e = cc (e)
  stopped_at (asks one) rule unit line is e = cc (e)
  stopped_at astray rule unit line is e = cc (e)

  undefined_at : (control : CControl) (rule : URule) (unit line : ℕ) → ControlStandsIn Among control → progress_at control ≡ undefined rule unit line → Among unit
  undefined_at (begins_static one others) rule unit line is e = cc (e)
  undefined_at (moves one) rule unit line is e = cc (e)
  undefined_at (evaluates work purpose) rule unit line is e = cc (e)
  undefined_at (uses operand purpose) rule unit line is e = cc (e)
  undefined_at (takes one) rule unit line is e = cc (e)
  undefined_at (has_ended status) rule unit line is e = cc (e)
  undefined_at (has_stopped stop) rule unit line is e = stopped_at stop rule unit line is e

-- of whatever units: a predicate, which need not be a test
pub undefined_steps_stand_among : (Among : ℕ → Type 0) → UndefinedStepsStandAmong Among
undefined_steps_stand_among Among program order terms outside steps rule unit line all first e =
    let kept = statics_kept (ObjectStandsIn Among) program.objects all.objects_stand in
    let begins : StateStandsIn Among (c_start program order terms outside) = record { control = statics_begin_stand Among (statics_in program.objects) (statics_in program.objects) kept; callers = tt } in
    let state = run_stands Among (setting_of program) all first (c_start program order terms outside) steps begins in
    undefined_at Among (c_after (setting_of program) steps (c_start program order terms outside)).control rule unit line state.control e

pub undefined_steps_stand_in_units : UndefinedStepsStandInUnits
undefined_steps_stand_in_units among = undefined_steps_stand_among (λ unit. among unit ≡ true)
