use Rattle.std.proofs.Common.{◌≡◌, ◌++◌, map, reverse, length}
use Rattle.cx_core.specs.Views.{view_object}
use Rattle.cx_unit_ends.proofs.order.put_rest.Given as goal

-- what was put, and what is left
abbrev pub invariant-loop-one : goal.invariant-loop-one
invariant-loop-one l =
    map view_object l.done.items ++ reverse (map view_object l.held.items) ≡ map view_object l.fn.done.items ++ reverse (map view_object l.fn.held.items)

abbrev pub decreases-loop-one : goal.decreases-loop-one
decreases-loop-one l = length l.held.items
