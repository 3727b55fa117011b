use Rattle.std.proofs.Common.{◌≡◌, ◌≤◌, ℕ, length, map, drop}
use Rattle.cx_core.specs.Views.{view_object}
use Rattle.cx_linked.specs.Named.{object_number_among, units_of}
use Rattle.cx_renumber.specs.Views.{number_in}
use Rattle.cx_linked.proofs.numbers.object_numbers.Given as goal

abbrev pub invariant-loop-place : goal.invariant-loop-place
invariant-loop-place l = (l.place ≤ length l.objects) × (length l.table ≡ l.count)
    × ((n : ℕ) → number_in l.table l.before n ≡ object_number_among (units_of l.named) l.before (map view_object (drop l.place l.objects)) n)

abbrev pub decreases-loop-place : goal.decreases-loop-place
decreases-loop-place l = l.place
