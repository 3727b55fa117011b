-- The step at any ready node of a typed expression, of whatever form (ISO C99, 6.5 and 5.1.2.3).
use Rattle.cx_core.specs.Typing.{CHome}
use Rattle.cx_mean.specs.Operands.{Frame}
use Rattle.mem_bytes.specs.Memory.{Blocks}
use Rattle.cx_typed_work.proofs.Calling.{call_leaves, call_by_leaves}
use Rattle.cx_typed_work.proofs.Literals.{literal_leaves}
use Rattle.cx_typed_work.proofs.MemberValues.{member_value_done}
use Rattle.cx_typed_work.proofs.Needs.{OthersStep, needs_leave}
use Rattle.cx_typed_work.proofs.Puts.{put_typed as value_typed, put_leaves}
use Rattle.cx_typed_work.proofs.Trees.{NodesStep, tree_steps}
use Rattle.cx_typed_work.specs.Scenes.{IsScene}
use Rattle.cx_typed_work.specs.Steps.{StepsKeepTyped}

others_step : (home : CHome) (frame : Frame) (blocks : Blocks) → IsScene home frame blocks → OthersStep home frame blocks
others_step home frame blocks scene = record {
  value_member = λ type place of spot one is given. member_value_done home frame blocks type place of spot one scene is given;
  of_call = λ type place callee args works is are all. call_leaves home frame blocks type place callee args works scene is are all;
  of_call_by = λ type place callee args works is are all. call_by_leaves home frame blocks type place callee args works scene is are all;
  of_literal = λ type place number puts is. literal_leaves home frame blocks type place number puts scene is;
}

nodes_step : (home : CHome) (frame : Frame) (blocks : Blocks) → IsScene home frame blocks → NodesStep home frame blocks
nodes_step home frame blocks scene = record {
  of_needs = λ node works typed are all. needs_leave home frame blocks scene (others_step home frame blocks scene) node works typed are all;
  of_put = λ node marks one others operand typed filling given. put_leaves home frame blocks node marks one others operand scene typed filling given;
  put_typed = λ node one others typed filling. value_typed home node one others typed filling;
}

pub steps_keep_typed : StepsKeepTyped
steps_keep_typed home node frame blocks work pick scene is below =
    tree_steps home frame blocks scene (nodes_step home frame blocks scene) work node pick is.typed is.left below
