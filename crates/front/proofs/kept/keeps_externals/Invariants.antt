use Rattle.std.proofs.Common.{◌≡◌, map, drop}
use Rattle.std.specs.List.{list_all}
use Rattle.straight_core.specs.Views.{view_outer}
use Rattle.front.specs.Kept.{keeps_outer}
use Rattle.front.proofs.kept.keeps_externals.Given as goal

abbrev pub invariant-loop-one : goal.invariant-loop-one
invariant-loop-one l = list_all keeps_outer (map view_outer (drop l.one-index l.externals)) ≡ list_all keeps_outer (map view_outer l.externals)
