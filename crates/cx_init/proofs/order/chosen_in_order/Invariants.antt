use Rattle.std.proofs.Common.{◌≡◌, ◌+◌, map, length, reverse}
use Rattle.cx_init.specs.Orders.{chosen, ordered_onto}
use Rattle.cx_init.specs.Views.{view_stored}
use Rattle.cx_rules.specs.Initial.{in_order}
use Rattle.cx_init.proofs.order.chosen_in_order.Given as goal

-- those that are left go among those that are in order
abbrev pub invariant-loop-index : goal.invariant-loop-index
invariant-loop-index l = record {
  same : length l.flags ≡ length l.left;
  count : length l.left + l._index ≡ length l.fn.stored;
  onto : ordered_onto (chosen l.flags (map view_stored l.left)) (reverse (map view_stored l.sorted.items)) ≡ in_order (chosen l.fn.flags (map view_stored l.fn.stored));
}
