-- A step of a full expression in a typed state (ISO C99, 6.5 and 5.1.2.3).
use Rattle.std.proofs.Common.{◌≡◌, inl, inr, refl, sym, ap, subst, ℕ, ◌<◌, Bool, true, false, List, [], ◌∷◌, ◌++◌, Option, Some, None, Ok, Err}
use Rattle.cr_world.specs.World.{World, blocks_of, with_memory, wrong}
use Rattle.cx_core.specs.Trees.{CTy, CExpr, type_of, CFun, CProgram}
use Rattle.cx_core.specs.Typing.{IsTyped}
use Rattle.cx_mean.specs.Calls.{CCalled}
use Rattle.cx_mean.specs.Moves.{CPurpose}
use Rattle.cx_mean.specs.Operands.{CStop}
use Rattle.cx_mean.specs.Settings.{setting_of}
use Rattle.cx_mean.specs.State.{CState, own_frame, frame_for, calling, stopped, after_step, expression_step}
use Rattle.cx_mean.specs.Steps.{did, asks_call, CStepped, picked, step_at}
use Rattle.cx_mean.specs.Work.{CWork, is_waiting, ready}
use Rattle.mem_bytes.specs.Memory.{Blocks}
use Rattle.cx_typed_work.proofs.AskingOnce.{steps_ask_once}
use Rattle.cx_typed_work.proofs.GoesOn.{expressions_go_on}
use Rattle.cx_typed_work.proofs.Stepping.{steps_keep_typed}
use Rattle.cx_typed_work.specs.Calls.{IsTypedCall, IsWaitingFor}
use Rattle.cx_typed_work.specs.Scenes.{IsTypedMemory, AreSameShapes}
use Rattle.cx_typed_work.specs.Steps.{StepLeaves, AsksOnce}
use Rattle.cx_typed_work.specs.Works.{IsWorkOf}
use Rattle.cx_typed_runs.proofs.Calling.{calling_typed}
use Rattle.cx_typed_runs.proofs.Constants.{constant_asks}
use Rattle.cx_typed_runs.proofs.Evaluating.{IsReady, picked_below, scene_for, home_program}
use Rattle.cx_typed_runs.proofs.GoingOn.{AllStand, others_of, going_on_typed}
use Rattle.cx_typed_runs.proofs.Owned.{owned_back, shapes_owned, shapes_held}
use Rattle.cx_typed_runs.specs.States.{CRunning, in_function, before_main, home_in, IsPurposeOf, IsConstantAt, IsEvaluated, StopsByRule, IsTypedState}

-- ---- the same objects in another memory

pub ready_in : (program : CProgram) (running : CRunning) (state : CState) (world : World) (purpose : CPurpose) (after : Blocks) → IsReady program running state world purpose → AreSameShapes (blocks_of world) after → IsTypedMemory program after
    → IsReady program running state (with_memory after world) purpose
ready_in program running state world purpose after is shapes memory = record {
  linked = is.linked;
  memory = memory;
  held = shapes_held (blocks_of world) after world.held.heap shapes is.held;
  owned = shapes_owned program world.held (with_memory after world).held (own_frame purpose ++ others_of state) refl shapes is.owned;
  callers = is.callers;
  begun = is.begun;
}

pub stopped_typed : (program : CProgram) (running : CRunning) (state : CState) (purpose : CPurpose) (stop : CStop) → IsReady program running state state.world purpose → StopsByRule stop → IsTypedState program (stopped state stop)
stopped_typed program running state purpose stop is named = record {
  memory = is.memory;
  held = is.held;
  owned = owned_back program state.world.held (own_frame purpose) (others_of state) is.owned;
  control = named;
}

-- ---- the step

-- before `main` nothing is called
abbrev CallsOnlyIn : CRunning → CStepped → Type 0
CallsOnlyIn (in_function one result) stepped = Unit {0}
CallsOnlyIn (before_main unit) stepped = (called : CCalled) (work : CWork) → stepped ≡ Ok (asks_call called work) → ⊥

after_typed : AllStand → (program : CProgram) (running : CRunning) (state : CState) (node : CExpr) (purpose : CPurpose) (stepped : CStepped) → IsReady program running state state.world purpose
    → IsTyped (home_in program running purpose) node → IsConstantAt program running node → IsPurposeOf program running (type_of node) purpose → CallsOnlyIn running stepped
    → StepLeaves (home_in program running purpose) node (blocks_of state.world) stepped → AsksOnce stepped → IsTypedState program (after_step (setting_of program) state purpose stepped)
after_typed all program running state node purpose (Ok (did work after)) is typed constant fits only leaves asks =
    going_on_typed all program running state (with_memory after state.world) node work purpose
    (ready_in program running state state.world purpose after is leaves.1 (subst (λ p. IsTypedMemory p after) (home_program program running (type_of node) purpose fits) leaves.2)) typed constant leaves.0.left asks fits
after_typed all program (in_function one result) state node purpose (Ok (asks_call called work)) is typed constant fits only leaves asks =
    calling_typed all program one result state node work purpose called is typed leaves.0.left asks.0 asks.1
    (subst (λ p. IsTypedCall p called) (home_program program (in_function one result) (type_of node) purpose fits) leaves.1) fits
after_typed all program (before_main unit) state node purpose (Ok (asks_call called work)) is typed constant fits only leaves asks = absurd (only called work refl)
after_typed all program running state node purpose (Err fault) is typed constant fits only leaves asks = stopped_typed program running state purpose (wrong fault) is leaves

-- the order that is left is part of no typing
pub ready_order : (program : CProgram) (running : CRunning) (state : CState) (purpose : CPurpose) (order : List ℕ) → IsReady program running state state.world purpose → IsReady program running (record state { order = order }) state.world purpose
ready_order program running state purpose order is = record { linked = is.linked; memory = is.memory; held = is.held; owned = is.owned; callers = is.callers; begun = is.begun }

calls_only : (program : CProgram) (running : CRunning) (state : CState) (purpose : CPurpose) (pick : ℕ) (it : _) → (work : CWork) → IsConstantAt program running it → IsWorkOf (home_in program running purpose) it work
    → CallsOnlyIn running (step_at (setting_of program) (frame_for state purpose) (blocks_of state.world) pick work)
calls_only program (in_function one result) state purpose pick it work constant left = tt
calls_only program (before_main unit) state purpose pick it work constant left = λ called after e.
    constant_asks (home_in program (before_main unit) purpose) program (setting_of program) (frame_for state purpose) (blocks_of state.world) it work pick called after constant left e

pub expression_typed : AllStand → (program : CProgram) (running : CRunning) (state : CState) (work : CWork) (purpose : CPurpose) → IsReady program running state state.world purpose → IsEvaluated program running work purpose
    → IsTypedState program (expression_step (setting_of program) state work purpose)
expression_typed all program running state work purpose is one =
    let home = home_in program running purpose in
    let pick = (picked state.order (ready work)).pick in
    let stepped = step_at (setting_of program) (frame_for state purpose) (blocks_of state.world) pick work in
    let scene = scene_for program running state state.world (type_of one.node) purpose is one.fits in
    let some = expressions_go_on home one.node work (record { typed = inl one.typed; left = one.left }) one.unfinished one.waits_not in
    after_typed all program running (record state { order = (picked state.order (ready work)).order }) one.node purpose stepped
    (ready_order program running state purpose (picked state.order (ready work)).order is) one.typed one.constant one.fits
    (calls_only program running state purpose pick one.node work one.constant one.left)
    (subst (λ p. StepLeaves home one.node (blocks_of state.world) (step_at (setting_of p) (frame_for state purpose) (blocks_of state.world) pick work)) (home_program program running (type_of one.node) purpose one.fits)
    (steps_keep_typed home one.node (frame_for state purpose) (blocks_of state.world) work pick scene (record { typed = inl one.typed; left = one.left }) (picked_below state.order (ready work) some)))
    (steps_ask_once (setting_of program) (frame_for state purpose) (blocks_of state.world) work pick one.waits_not)
