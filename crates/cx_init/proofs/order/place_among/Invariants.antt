use Rattle.std.proofs.Common.{◌≡◌, ◌≤◌, map, reverse, length}
use Rattle.cx_init.specs.Orders.{place_among}
use Rattle.cx_init.specs.Views.{view_stored}
use Rattle.cx_init.proofs.order.place_among.Given as goal

-- the place among those that are left is that among all
abbrev pub invariant-loop-first : goal.invariant-loop-first
invariant-loop-first l = record {
  place : place_among (reverse (map view_stored l.left)) l.path ≡ place_among (reverse (map view_stored l.sorted)) l.path;
  within : length l.left ≤ length l.sorted;
}

abbrev pub decreases-loop-first : goal.decreases-loop-first
decreases-loop-first l = length l.left
