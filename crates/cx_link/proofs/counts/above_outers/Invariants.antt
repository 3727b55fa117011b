use Rattle.std.proofs.Common.{◌≡◌, map, drop}
use Rattle.std.specs.Prelude.{max}
use Rattle.cx_core.specs.Views.{view_outer}
use Rattle.cx_renumber.specs.Numbers.{above}
use Rattle.cx_link.proofs.counts.above_outers.Given as goal

abbrev pub invariant-loop-one : goal.invariant-loop-one
invariant-loop-one l = max l.count (above (map (λ known. known.function) (map view_outer (drop l.one-index l.externals)))) ≡ above (map (λ known. known.function) (map view_outer l.externals))
