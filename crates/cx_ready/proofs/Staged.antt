-- Stages of `op=`, `++` and `--`.
use Rattle.std.proofs.Common.{◌≡◌, refl, Result}
use Rattle.cx_core.specs.Trees.{CExpr, place_of}
use Rattle.cx_ready.specs.Nodes.{stage_by}
use Rattle.cx_ready.specs.Parts.{by_update, without_marks}
use Rattle.cx_mean.specs.Marks.{Marks}
use Rattle.cx_mean.specs.Nodes.{CDone}
use Rattle.cx_mean.specs.Operands.{CWhy, Frame}
use Rattle.cx_mean.specs.Settings.{CSetting}
use Rattle.cx_mean.specs.Steps.{at_node, stage_step}
use Rattle.cx_mean.specs.Work.{CUpdate, CStage, was_loaded, was_computed, was_converted, CWork, finished, needs, chooses, tests, carries, updates, fills, waits}
use Rattle.mem_bytes.specs.Memory.{Blocks}

pub same_update : (step : CUpdate → Result CDone CWhy) (work : CWork) → by_update step (without_marks work) ≡ by_update step work
same_update step (finished operand) = refl
same_update step (needs node operands) = refl
same_update step (chooses node first) = refl
same_update step (tests node marks second) = refl
same_update step (carries node marks part) = refl
same_update step (updates node update stage marks) = refl
same_update step (fills node marks one others value) = refl
same_update step (waits node marks) = refl

pub stage_is : (setting : CSetting) (frame : Frame) (blocks : Blocks) (node : CExpr) (update : CUpdate) (stage : CStage) (marks : Marks) →
    stage_by setting frame blocks node stage (updates node update stage marks) ≡ at_node (place_of node) (stage_step setting frame blocks node update marks stage)
stage_is setting frame blocks node update was_loaded marks = refl
stage_is setting frame blocks node update (was_computed new) marks = refl
stage_is setting frame blocks node update (was_converted new) marks = refl
