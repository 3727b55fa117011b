-- Every step of a typed expression keeps it typed, at every ready place; none is stuck (ISO C99, 6.5 and 5.1.2.3).
use Rattle.std.specs.Prelude.{◌≡◌, ℕ, ◌<◌, true, false, None, Ok, Err}
use Rattle.cx_core.specs.Trees.{CTy, CExpr}
use Rattle.cx_core.specs.Typing.{CHome}
use Rattle.cx_mean.specs.Operands.{CValue, Frame, CWhy, breaks, stuck}
use Rattle.cx_mean.specs.Settings.{CSetting, setting_of}
use Rattle.cx_mean.specs.Steps.{did, asks_call, CStepped, step_at}
use Rattle.cx_mean.specs.Work.{CWork, begun, is_finished, ready, is_waiting, resumed}
use Rattle.mem_bytes.specs.Memory.{Blocks}
use Rattle.cx_typed_work.specs.Calls.{IsTypedCall, IsWaitingFor, IsReturned}
use Rattle.cx_typed_work.specs.Scenes.{IsScene, IsTypedMemory, AreSameShapes}
use Rattle.cx_typed_work.specs.Works.{IsTypedNode, IsTypedWork}

-- a fault is a broken rule (3.4.3), and not that the meaning says nothing
abbrev pub IsRule : CWhy → Type 0
IsRule (breaks rule) = Unit {0}
IsRule stuck = ⊥

-- what the step of a typed expression leaves: a typed tree, in a memory with the same live blocks; a typed call, for which a typed tree
-- waits; or a broken rule
abbrev pub StepLeaves : CHome → CExpr → Blocks → CStepped → Type 0
StepLeaves home node blocks (Ok (did work after)) = IsTypedWork home node work × AreSameShapes blocks after × IsTypedMemory home.program after
StepLeaves home node blocks (Ok (asks_call called work)) = IsTypedWork home node work × IsTypedCall home.program called
StepLeaves home node blocks (Err fault) = IsRule fault.why

-- Law: what is begun of a typed expression is typed
abbrev pub ExpressionsBeginTyped : Type 0
ExpressionsBeginTyped = (home : CHome) (node : CExpr) → home.mentions ≡ None → IsTypedNode home node → IsTypedWork home node (begun node)

-- Law: a step at any ready node keeps it typed
abbrev pub StepsKeepTyped : Type 0
StepsKeepTyped = (home : CHome) (node : CExpr) (frame : Frame) (blocks : Blocks) (work : CWork) (pick : ℕ)
    → IsScene home frame blocks → IsTypedWork home node work → pick < ready work
    → StepLeaves home node blocks (step_at (setting_of home.program) frame blocks pick work)

-- what the step of a tree that waits for no call leaves: one that waits for none, or one in which each call that it waits for gives a value of
-- the type that is asked for
abbrev pub AsksOnce : CStepped → Type 0
AsksOnce (Ok (did work after)) = is_waiting work ≡ false
AsksOnce (Ok (asks_call called work)) = (is_waiting work ≡ true) × IsWaitingFor called.type work
AsksOnce (Err fault) = Unit {0}

-- Law: a tree waits for no other call than one of the type that is asked for
abbrev pub StepsAskOnce : Type 0
StepsAskOnce = (setting : CSetting) (frame : Frame) (blocks : Blocks) (work : CWork) (pick : ℕ) → is_waiting work ≡ false
    → AsksOnce (step_at setting frame blocks pick work)

-- Law: what a call gives for which a tree waits keeps it typed
abbrev pub CallsResumeTyped : Type 0
CallsResumeTyped = (home : CHome) (node : CExpr) (type : CTy) (work : CWork) (value : CValue) → IsTypedWork home node work
    → IsWaitingFor type work → IsReturned home.program type value → IsTypedWork home node (resumed value work)

-- Law: an expression that isn't finished, and doesn't wait for a call, has a ready node
abbrev pub ExpressionsGoOn : Type 0
ExpressionsGoOn = (home : CHome) (node : CExpr) (work : CWork) → IsTypedWork home node work → is_finished work ≡ false → is_waiting work ≡ false → 0 < ready work
