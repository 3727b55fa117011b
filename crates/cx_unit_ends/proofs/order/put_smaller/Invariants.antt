use Rattle.std.proofs.Common.{◌≡◌, ◌++◌, map, reverse, length}
use Rattle.cx_core.specs.Views.{view_object}
use Rattle.cx_unit_ends.specs.Merged.{left_above, taken_below}
use Rattle.cx_unit_ends.proofs.order.put_smaller.Given as goal

-- what was put, and what is still to be put
abbrev pub invariant-loop-held : goal.invariant-loop-held
invariant-loop-held l = record {
  taken : map view_object l.done.items ++ taken_below l.number (reverse (map view_object l.held.items))
      ≡ map view_object l.fn.done.items ++ taken_below l.number (reverse (map view_object l.fn.held.items));
  left : left_above l.number (reverse (map view_object l.held.items)) ≡ left_above l.number (reverse (map view_object l.fn.held.items));
}

abbrev pub decreases-loop-held : goal.decreases-loop-held
decreases-loop-held l = length l.held.items
