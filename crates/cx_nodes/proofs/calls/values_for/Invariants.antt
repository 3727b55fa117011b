use Rattle.std.proofs.Common.{◌≡◌, map}
use Rattle.cx_core.specs.Views.{view_expr, view_type, view_types}
use Rattle.cx_nodes.specs.Calls.{values_for}
use Rattle.cx_operands.specs.Views.{view_operand}
use Rattle.cx_nodes.proofs.calls.values_for.Given as goal

abbrev pub invariant-loop-arg : goal.invariant-loop-arg
invariant-loop-arg l = map view_expr l.made ≡ values_for (view_types l.types) (map view_type l.params) (map view_operand l.yielded)
