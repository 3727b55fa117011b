-- What `op=`, `++` and `--` compute.
use Rattle.cx_mean.specs.Marks.{Marks}
use Rattle.cx_mean.specs.Nodes.{CChange, CUpdating}
use Rattle.cx_mean.specs.Operands.{COperand}
use Rattle.cx_node_steps.specs.declared.updates.Change.{Change}
use Rattle.cx_work.specs.declared.work.Update.{Update}
use Rattle.cx_work.specs.Views.{view_operand_ty, view_typed, view_update}

-- a change of a target
abbrev pub view_change : Change → COperand → CChange
view_change one target = record {
  op = one.op;
  computes = view_operand_ty one.computes;
  right = view_typed one.right;
  target = target;
  is_postfix = one.is_postfix;
}

abbrev pub view_updating : Marks → Update → CUpdating
view_updating marks one = record { update = view_update one; marks = marks }
