use Rattle.std.proofs.Common.{◌≡◌, map, drop}
use Rattle.cx_core.specs.Views.{view_member}
use Rattle.rs_items.specs.Records.{has_named_bits}
use Rattle.rs_items.proofs.sizes.has_named_bits.Given as goal

-- what is left tells it
abbrev pub invariant-loop-one : goal.invariant-loop-one
invariant-loop-one l = has_named_bits (map view_member (drop l.one-index l.members)) ≡ has_named_bits (map view_member l.members)
