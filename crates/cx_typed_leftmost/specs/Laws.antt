-- What the leftmost run of a typed expression leaves (ISO C99, 6.5 and 5.1.2.3): an operand of its type, in a typed memory in which each object in scope lives on.
use Rattle.std.specs.Prelude.{◌≡◌, ℕ, true, ◌++◌}
use Rattle.cr_runs.specs.Owes.{AtEnd}
use Rattle.cr_world.specs.Laws.{HeapLives}
use Rattle.cr_world.specs.World.{World, blocks_of}
use Rattle.cx_core.specs.Trees.{CExpr, CFun, CProgram}
use Rattle.cx_core.specs.Typing.{CHome}
use Rattle.cx_mean.specs.Calls.{CCalled, defined}
use Rattle.cx_mean.specs.Leftmost.{CCalls, c_value}
use Rattle.cx_mean.specs.Operands.{CValue, COperand, Frame}
use Rattle.cx_mean.specs.Quiet.{calls_nothing}
use Rattle.cx_mean.specs.Settings.{setting_of}
use Rattle.cx_mean.specs.State.{values_of_args}
use Rattle.cx_typed_runs.specs.Sites.{AreOwned}
use Rattle.cx_typed_work.specs.Calls.{IsTypedCall, IsReturned}
use Rattle.cx_typed_work.specs.ExternalCalls.{KeepsObjects}
use Rattle.cx_typed_work.specs.Operands.{IsOperandOf}
use Rattle.cx_typed_work.specs.Scenes.{IsScene, IsTypedMemory, AreSameShapes}
use Rattle.cx_typed_work.specs.Works.{IsTypedNode}

-- ---- worlds

-- a world in which expressions of a home may be evaluated
pub record IsTypedAt (home : CHome) (frame : Frame) (world : World) : Type 0 where
  pub scene : IsScene home frame (blocks_of world)
  pub allocated : HeapLives world.held
  pub owned : AreOwned home.program world.held frame

-- ---- calls

-- what a call of a function of the program gives and leaves
pub record CallIsTyped (program : CProgram) (called : CCalled) (before : World) (value : CValue) (after : World) : Type 0 where
  pub returned : IsReturned program called.type value
  pub memory : IsTypedMemory program (blocks_of after)
  pub allocated : HeapLives after.held
  pub keeps : KeepsObjects before.held after.held

-- so it is with all calls that typed programs make
abbrev pub CallsAreTyped : CProgram → Frame → CCalls → Type 0
CallsAreTyped program statics calls =
    (called : CCalled) (callee : CFun) (world : World) (steps : ℕ) → IsTypedCall program called → called.callee ≡ defined callee →
    IsTypedMemory program (blocks_of world) → HeapLives world.held → AreOwned program world.held statics →
    AtEnd (CallIsTyped program called world) (calls callee (values_of_args called.args) world steps)

-- ---- expressions

-- where an expression has come to its end
pub record IsTypedEnd (home : CHome) (frame : Frame) (e : CExpr) (before : World) (operand : COperand) (after : World) : Type 0 where
  pub operand_is : IsOperandOf home e operand
  pub at : IsTypedAt home frame after
  pub keeps : KeepsObjects before.held after.held
  pub shapes : calls_nothing e ≡ true → AreSameShapes (blocks_of before) (blocks_of after)

abbrev pub LeftmostStaysTyped : Type 0
LeftmostStaysTyped =
    (home : CHome) (calls : CCalls) (frame statics : Frame) (e : CExpr) (world : World) (steps : ℕ) → CallsAreTyped home.program statics calls →
    IsTypedNode home e → IsTypedAt home (frame ++ statics) world →
    AtEnd (IsTypedEnd home (frame ++ statics) e world) (c_value (setting_of home.program) calls (frame ++ statics) e world steps)
