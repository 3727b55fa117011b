use Rattle.std.proofs.Common.{◌≡◌, ◌≤◌, ℕ, map, drop, length}
use Rattle.cx_core.specs.Views.{view_outer}
use Rattle.whole_keys.specs.Places.{first_from, has_outer, placed}
use Rattle.whole_keys.proofs.places.outer_places.Given as goal

-- what stands behind those that are left
abbrev pub invariant-loop-left : goal.invariant-loop-left
invariant-loop-left l = record {
  within : l.left ≤ length l.externals;
  places : (number : ℕ) → placed l.places number ≡ first_from l.left (has_outer number) (map view_outer (drop l.left l.externals));
}

abbrev pub decreases-loop-left : goal.decreases-loop-left
decreases-loop-left l = l.left
