use Rattle.std.proofs.Common.{◌≡◌, map, drop}
use Rattle.std.specs.List.{list_any}
use Rattle.cx_breaks.specs.Asked.{is_fixed}
use Rattle.cx_operands.specs.Views.{view_operand}
use Rattle.cx_breaks.proofs.calls.some_fixed.Given as goal

abbrev pub invariant-loop-arg : goal.invariant-loop-arg
invariant-loop-arg l = list_any is_fixed (map view_operand (drop l.arg-index l.args)) ≡ list_any is_fixed (map view_operand l.args)
