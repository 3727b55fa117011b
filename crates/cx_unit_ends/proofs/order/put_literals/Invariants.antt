use Rattle.std.proofs.Common.{◌≡◌, map, reverse, length}
use Rattle.cx_core.specs.Views.{view_object}
use Rattle.cx_scope.specs.Views.{view_made}
use Rattle.cx_unit_ends.specs.Ends as ends
use Rattle.cx_unit_ends.proofs.order.put_literals.Given as goal

-- what is left is still to be put
abbrev pub invariant-loop-one : goal.invariant-loop-one
invariant-loop-one l =
    ends.ordered_onto (map (ends.made_object l.unit) (map view_made l.literals)) (reverse (map view_object l.held.items))
    ≡ ends.ordered_onto (map (ends.made_object l.unit) (map view_made l.fn.literals)) (reverse (map view_object l.fn.held.items))

abbrev pub decreases-loop-one : goal.decreases-loop-one
decreases-loop-one l = length l.literals
