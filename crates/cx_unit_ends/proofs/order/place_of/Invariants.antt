use Rattle.std.proofs.Common.{◌≡◌, ◌≤◌, map, reverse, length}
use Rattle.cx_core.specs.Views.{view_object}
use Rattle.cx_unit_ends.specs.Ends.{place_of}
use Rattle.cx_unit_ends.proofs.order.place_of.Given as goal

-- the place among those that are left is that among all
abbrev pub invariant-loop-last : goal.invariant-loop-last
invariant-loop-last l = record {
  place : place_of (reverse (map view_object l.left)) l.number ≡ place_of (reverse (map view_object l.held)) l.number;
  within : length l.left ≤ length l.held;
}

abbrev pub decreases-loop-last : goal.decreases-loop-last
decreases-loop-last l = length l.left
