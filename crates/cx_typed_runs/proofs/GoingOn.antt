-- What follows a step of a typed full expression: it goes on, or its value is taken, or statements follow (ISO C99, 6.8).
use Rattle.std.proofs.Common.{◌≡◌, inl, inr, refl, sym, ap, ◌∙◌, subst, Bool, true, false, List, [], ◌∷◌, ◌++◌, Option, Some, None}
use Rattle.cr_world.specs.Held.{Held, with_blocks}
use Rattle.cr_world.specs.World.{World, blocks_of}
use Rattle.cx_core.specs.Trees.{CTy, CExpr, type_of, CFun, CProgram}
use Rattle.cx_core.specs.Typing.{IsTyped}
use Rattle.cx_mean.specs.Moves.{CPurpose, puts_it, drops_it, turns_on, gives_it, chooses_by, CMove, values, reaches, begins, leaves, calls_main, goes_nowhere, CStand, next_of, turning_on}
use Rattle.cx_mean.specs.Operands.{COperand, Frame}
use Rattle.cx_mean.specs.Paths.{CSite}
use Rattle.cx_mean.specs.State.{CCaller, CState, own_frame, control_of, at_stand, finished_for, going_on}
use Rattle.cx_mean.specs.Work.{CWork, finished, needs, chooses, tests, carries, updates, fills, waits, is_waiting}
use Rattle.cx_typed_work.specs.Operands.{IsOperandOf}
use Rattle.cx_typed_work.specs.Works.{IsWorkOf}
use Rattle.cx_typed_runs.proofs.Evaluating.{IsReady, next_begins, begun_slots}
use Rattle.cx_typed_runs.proofs.Standing.{IsHere, IsStandOf, MovesStand}
use Rattle.cx_typed_runs.specs.Sites.{IsSite, AreOwned}
use Rattle.cx_typed_runs.specs.States.{CRunning, in_function, before_main, home_in, IsMoveIn, IsConstantAt, IsPurposeOf, IsControl, AreCallers, AreBegun, slots_of_move, slots_of_control, slots_of_callers, IsTypedState}

-- what statements owe, in every function
abbrev pub AllStand : Type 0
AllStand = (program : CProgram) (one : CFun) (result : CTy) → MovesStand program one result

-- ---- a move of a function as a state

move_control : (program : CProgram) (one : CFun) (result : CTy) (statics : Frame) (callers : List CCaller) (move : CMove) → IsMoveIn program one result move → AreCallers program result callers → AreBegun program [] statics
    → IsControl program statics callers (control_of move)
move_control program one result statics callers (values node purpose) is waiting begun_is = next_begins program (in_function one result) statics callers node purpose is waiting begun_is
move_control program one result statics callers (reaches reached site) is waiting begun_is = (in_function one result, is, waiting, begun_is)
move_control program one result statics callers (begins beginning) is waiting begun_is = (in_function one result, is, waiting, begun_is)
move_control program one result statics callers (leaves value site) is waiting begun_is = (in_function one result, is, waiting, begun_is)
move_control program one result statics callers calls_main is waiting begun_is = absurd is
move_control program one result statics callers (goes_nowhere place) is waiting begun_is = absurd is

move_slots : (program : CProgram) (one : CFun) (result : CTy) (move : CMove) → IsMoveIn program one result move → slots_of_control (control_of move) ≡ slots_of_move move
move_slots program one result (values node purpose) is = begun_slots node purpose
move_slots program one result (reaches reached site) is = refl
move_slots program one result (begins beginning) is = refl
move_slots program one result (leaves value site) is = refl
move_slots program one result calls_main is = absurd is
move_slots program one result (goes_nowhere place) is = absurd is

-- the objects of functions that wait, and static ones
abbrev pub others_of : CState → Frame
others_of state = slots_of_callers state.callers ++ state.statics

pub stand_typed : (program : CProgram) (one : CFun) (result : CTy) (state : CState) (world : World) (stand : CStand) → IsStandOf program one result world.held (others_of state) stand → AreCallers program result state.callers
    → AreBegun program [] state.statics → IsTypedState program (at_stand state world stand)
stand_typed program one result state world stand is waiting begun_is = record {
  memory = is.memory;
  held = is.allocated;
  owned = subst (λ slots. AreOwned program (with_blocks stand.blocks world.held) (slots ++ others_of state)) (sym (move_slots program one result stand.move is.move)) is.owned;
  control = move_control program one result state.statics state.callers stand.move is.move waiting begun_is;
}

-- where a purpose stands at a site
pub here_of : (program : CProgram) (one : CFun) (result : CTy) (state : CState) (world : World) (site : CSite) → IsReady program (in_function one result) state world (drops_it site) → IsSite program one result site
    → IsHere program one result world.held (others_of state) site
here_of program one result state world site ready at = record { linked = ready.linked; at = at; memory = ready.memory; allocated = ready.held; owned = ready.owned }

-- the same objects are in scope
pub ready_as : (program : CProgram) (running : CRunning) (state : CState) (world : World) (purpose other : CPurpose) → own_frame purpose ≡ own_frame other → IsReady program running state world purpose → IsReady program running state world other
ready_as program running state world purpose other same ready = record {
  linked = ready.linked;
  memory = ready.memory;
  held = ready.held;
  owned = subst (λ frame. AreOwned program world.held (frame ++ others_of state)) same ready.owned;
  callers = ready.callers;
  begun = ready.begun;
}

-- ---- a full expression goes on

-- its value is there
pub finished_typed : AllStand → (program : CProgram) (running : CRunning) (state : CState) (world : World) (node : CExpr) (operand : COperand) (purpose : CPurpose) → IsReady program running state world purpose → IsTyped (home_in program running purpose) node
    → IsOperandOf (home_in program running purpose) node operand → IsPurposeOf program running (type_of node) purpose → IsTypedState program (finished_for state world operand purpose)
finished_typed all program running state world node operand (puts_it place putting) ready typed given fits = record {
  memory = ready.memory;
  held = ready.held;
  owned = ready.owned;
  control = (running, record { node = node; typed = typed; operand_is = given; fits = fits }, ready.callers, ready.begun);
}
finished_typed all program (in_function one result) state world node operand (drops_it site) ready typed given fits =
    stand_typed program one result state world (next_of site (blocks_of world)) ((all program one result).next world.held (others_of state) site (here_of program one result state world site ready fits)) ready.callers ready.begun
finished_typed all program (before_main unit) state world node operand (drops_it site) ready typed given fits = absurd fits
finished_typed all program (in_function one result) state world node operand (turns_on site) ready typed given fits =
    let here = here_of program one result state world site (ready_as program (in_function one result) state world (turns_on site) (drops_it site) refl ready) fits.0 in
    stand_typed program one result state world (turning_on site (blocks_of world)) ((all program one result).turned world.held (others_of state) site here fits.1) ready.callers ready.begun
finished_typed all program (before_main unit) state world node operand (turns_on site) ready typed given fits = absurd fits
finished_typed all program running state world node operand (gives_it place site) ready typed given fits = record {
  memory = ready.memory;
  held = ready.held;
  owned = ready.owned;
  control = (running, record { node = node; typed = typed; operand_is = given; fits = fits }, ready.callers, ready.begun);
}
finished_typed all program running state world node operand (chooses_by place site) ready typed given fits = record {
  memory = ready.memory;
  held = ready.held;
  owned = ready.owned;
  control = (running, record { node = node; typed = typed; operand_is = given; fits = fits }, ready.callers, ready.begun);
}

pub going_on_typed : AllStand → (program : CProgram) (running : CRunning) (state : CState) (world : World) (node : CExpr) (work : CWork) (purpose : CPurpose) → IsReady program running state world purpose → IsTyped (home_in program running purpose) node
    → IsConstantAt program running node → IsWorkOf (home_in program running purpose) node work → is_waiting work ≡ false → IsPurposeOf program running (type_of node) purpose → IsTypedState program (going_on state world work purpose)
going_on_typed all program running state world node (finished operand) purpose ready typed constant left free fits =
    finished_typed all program running state world node operand purpose ready typed left fits
going_on_typed all program running state world node (needs own operands) purpose ready typed constant left free fits = record {
  memory = ready.memory;
  held = ready.held;
  owned = ready.owned;
  control = (running, record { node = node; typed = typed; constant = constant; left = left; unfinished = refl; waits_not = free; fits = fits }, ready.callers, ready.begun);
}
going_on_typed all program running state world node (chooses own first) purpose ready typed constant left free fits = record {
  memory = ready.memory;
  held = ready.held;
  owned = ready.owned;
  control = (running, record { node = node; typed = typed; constant = constant; left = left; unfinished = refl; waits_not = free; fits = fits }, ready.callers, ready.begun);
}
going_on_typed all program running state world node (tests own marks second) purpose ready typed constant left free fits = record {
  memory = ready.memory;
  held = ready.held;
  owned = ready.owned;
  control = (running, record { node = node; typed = typed; constant = constant; left = left; unfinished = refl; waits_not = free; fits = fits }, ready.callers, ready.begun);
}
going_on_typed all program running state world node (carries own marks part) purpose ready typed constant left free fits = record {
  memory = ready.memory;
  held = ready.held;
  owned = ready.owned;
  control = (running, record { node = node; typed = typed; constant = constant; left = left; unfinished = refl; waits_not = free; fits = fits }, ready.callers, ready.begun);
}
going_on_typed all program running state world node (updates own update stage marks) purpose ready typed constant left free fits = record {
  memory = ready.memory;
  held = ready.held;
  owned = ready.owned;
  control = (running, record { node = node; typed = typed; constant = constant; left = left; unfinished = refl; waits_not = free; fits = fits }, ready.callers, ready.begun);
}
going_on_typed all program running state world node (fills own marks one others value) purpose ready typed constant left free fits = record {
  memory = ready.memory;
  held = ready.held;
  owned = ready.owned;
  control = (running, record { node = node; typed = typed; constant = constant; left = left; unfinished = refl; waits_not = free; fits = fits }, ready.callers, ready.begun);
}
going_on_typed all program running state world node (waits own marks) purpose ready typed constant left free fits = record {
  memory = ready.memory;
  held = ready.held;
  owned = ready.owned;
  control = (running, record { node = node; typed = typed; constant = constant; left = left; unfinished = refl; waits_not = free; fits = fits }, ready.callers, ready.begun);
}
