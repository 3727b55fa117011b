use Rattle.std.proofs.Common.{◌≡◌, drop}
use Rattle.straight_rust_tree.specs.Names.{is_among}
use Rattle.straight_items.proofs.temporaries.is_taken.Given as goal

-- the names that are left answer for all
abbrev pub invariant-loop-other : goal.invariant-loop-other
invariant-loop-other l = is_among l.names l.name ≡ is_among (drop l.other-index l.names) l.name
