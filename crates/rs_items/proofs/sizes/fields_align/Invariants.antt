use Rattle.std.proofs.Common.{◌≡◌, ◌≤◌, map, drop, max}
use Rattle.cx_core.specs.Views.{view_member}
use Rattle.rs_items.specs.Records.{fields_align}
use Rattle.rs_items.proofs.sizes.fields_align.Given as goal

-- the greatest so far and of what is left
abbrev pub invariant-loop-one : goal.invariant-loop-one
invariant-loop-one l =
    (1 ≤ l.found) × (max l.found (fields_align (map view_member (drop l.one-index l.members))) ≡ max 1 (fields_align (map view_member l.members)))
