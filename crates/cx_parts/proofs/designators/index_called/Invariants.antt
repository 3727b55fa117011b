use Rattle.std.proofs.Common.{◌≡◌, map, drop}
use Rattle.cx_core.specs.Views.{view_member}
use Rattle.cx_rules.specs.Initial.{called_from}
use Rattle.cx_parts.proofs.designators.index_called.Given as goal

-- those that are left give the rest
abbrev pub invariant-loop-index : goal.invariant-loop-index
invariant-loop-index l =
    called_from l.index l.name (map view_member (drop l.index l.members)) ≡ called_from 0 l.name (map view_member l.members)
