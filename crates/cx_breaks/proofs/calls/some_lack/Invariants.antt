use Rattle.std.proofs.Common.{◌≡◌, map, drop}
use Rattle.std.specs.List.{list_any}
use Rattle.cx_breaks.specs.Asked.{lacks_value}
use Rattle.cx_kinds.specs.Known.{types_in}
use Rattle.cx_operands.specs.Views.{view_operand}
use Rattle.cx_breaks.proofs.calls.some_lack.Given as goal

abbrev pub invariant-loop-arg : goal.invariant-loop-arg
invariant-loop-arg l = list_any (lacks_value (types_in l.known)) (map view_operand (drop l.arg-index l.args)) ≡ list_any (lacks_value (types_in l.known)) (map view_operand l.args)
