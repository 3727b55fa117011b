use Rattle.std.proofs.Common.{◌≡◌, map, drop}
use Rattle.cx_core.specs.Views.{view_member}
use Rattle.cx_rules.specs.Initial.{first_named}
use Rattle.cx_parts.proofs.parts.first_named.Given as goal

-- those that are left give the rest
abbrev pub invariant-loop-index : goal.invariant-loop-index
invariant-loop-index l = first_named l.index (map view_member (drop l.index l.members)) ≡ first_named 0 (map view_member l.members)
