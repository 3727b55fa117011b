use Rattle.std.proofs.Common.{◌≡◌, map, drop}
use Rattle.std.specs.Prelude.{max}
use Rattle.cx_core.specs.Views.{view_object}
use Rattle.cx_renumber.specs.Numbers.{above}
use Rattle.cx_link.proofs.counts.above_objects.Given as goal

abbrev pub invariant-loop-one : goal.invariant-loop-one
invariant-loop-one l = max l.count (above (map (λ known. known.object) (map view_object (drop l.one-index l.objects)))) ≡ above (map (λ known. known.object) (map view_object l.objects))
