use Rattle.std.proofs.Common.{◌≡◌, ◌≤◌, ℕ, map, drop, length}
use Rattle.cx_scope.specs.Places.{first_from}
use Rattle.cx_scope.specs.Views.{view_thing}
use Rattle.cx_unit_ends.specs.Ends.{names_object}
use Rattle.cx_unit_ends.specs.Numbered.{placed}
use Rattle.cx_unit_ends.proofs.places.object_places.Given as goal

-- what stands behind those that are left
abbrev pub invariant-loop-left : goal.invariant-loop-left
invariant-loop-left l = record {
  within : l.left ≤ length l.things;
  places : (number : ℕ) → placed l.places number ≡ first_from l.left (names_object number) (map view_thing (drop l.left l.things));
}

abbrev pub decreases-loop-left : goal.decreases-loop-left
decreases-loop-left l = l.left
