use Rattle.std.proofs.Common.{◌≡◌, map, drop}
use Rattle.cx_core.specs.Compatible.{named_as}
use Rattle.cx_core.specs.Views.{view_member}
use Rattle.cx_core.proofs.records.named_as.Given as goal

abbrev pub invariant-loop-one : goal.invariant-loop-one
invariant-loop-one l = named_as l.name (map view_member (drop l.one-index l.members)) ≡ named_as l.name (map view_member l.members)
