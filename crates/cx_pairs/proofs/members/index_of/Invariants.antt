use Rattle.std.proofs.Common.{◌≡◌, map, drop}
use Rattle.cx_core.specs.Views.{view_member}
use Rattle.cx_rules.specs.Meanings.{named_from}
use Rattle.cx_pairs.proofs.members.index_of.Given as goal

abbrev pub invariant-loop-index : goal.invariant-loop-index
invariant-loop-index l = named_from l.index l.name (map view_member (drop l.index l.members)) ≡ named_from 0 l.name (map view_member l.members)
