use Rattle.std.proofs.Common.{◌≡◌, map, drop}
use Rattle.cx_breaks.specs.Asked.{some_unfit}
use Rattle.cx_core.specs.Views.{view_type, view_types}
use Rattle.cx_operands.specs.Views.{view_operand}
use Rattle.cx_breaks.proofs.calls.some_unfit.Given as goal

abbrev pub invariant-loop-index : goal.invariant-loop-index
invariant-loop-index l =
    some_unfit (view_types l.types) (map view_type (drop l.index l.params)) (map view_operand (drop l.index l.args))
    ≡ some_unfit (view_types l.types) (map view_type l.params) (map view_operand l.args)
