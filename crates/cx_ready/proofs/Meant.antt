-- The step of a node that is ready itself is that of its tree.
use Rattle.std.proofs.Common.{◌≡◌, refl, sym, subst, true, Some, Result}
use Rattle.cx_core.specs.Trees.{CExpr}
use Rattle.cx_ready.specs.declared.halt.Halt.{Halt}
use Rattle.cx_ready.specs.declared.halt.Progress.{Progress}
use Rattle.cx_ready.specs.Parts.{by_part}
use Rattle.cx_ready.proofs.Staged.{stage_is}
use Rattle.cx_ready.specs.Ready.{node_ready, node_stepped}
use Rattle.cx_ready.specs.Steps.{Steps}
use Rattle.cx_mean.specs.Operands.{COperand, Frame}
use Rattle.cx_mean.specs.Settings.{CSetting}
use Rattle.cx_mean.specs.Steps.{CStepped, at_first_operand, step_at}
use Rattle.cx_mean.specs.Work.{CWork, finished, needs, chooses, tests, carries, updates, fills, waits, is_finished}
use Rattle.mem_bytes.specs.Memory.{Blocks}

part_step : (node : CExpr) (step : COperand → CStepped) (within : CStepped) (part : CWork) → is_finished part ≡ true → at_first_operand step within part ≡ by_part node step (Some part)
part_step node step within (finished operand) is = refl
part_step node step within (needs one operands) is = cc
part_step node step within (chooses one first) is = cc
part_step node step within (tests one marks second) is = cc
part_step node step within (carries one marks part) is = cc
part_step node step within (updates one update stage marks) is = cc
part_step node step within (fills one marks entry others value) is = cc
part_step node step within (waits one marks) is = cc

step_is : (setting : CSetting) (frame : Frame) (blocks : Blocks) (work : CWork) → node_ready work ≡ true → step_at setting frame blocks 0 work ≡ node_stepped setting frame blocks work
step_is setting frame blocks (finished operand) is = refl
step_is setting frame blocks (needs node operands) is = rw (step_at, is) refl
step_is setting frame blocks (chooses node first) is = part_step node _ _ first is
step_is setting frame blocks (tests node marks second) is = part_step node _ _ second is
step_is setting frame blocks (carries node marks part) is = refl
step_is setting frame blocks (updates node update stage marks) is = sym (stage_is setting frame blocks node update stage marks)
step_is setting frame blocks (fills node marks one others value) is = part_step node _ _ value is
step_is setting frame blocks (waits node marks) is = refl

pub steps_as_meant : (result : Result Progress Halt) (setting : CSetting) (frame : Frame) (before later : Blocks) (work left : CWork) → node_ready work ≡ true →
    Steps result before later left (node_stepped setting frame before work) → Steps result before later left (step_at setting frame before 0 work)
steps_as_meant result setting frame before later work left is steps = subst (Steps result before later left) (sym (step_is setting frame before work is)) steps
