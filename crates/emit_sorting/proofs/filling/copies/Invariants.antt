use Rattle.std.proofs.Common.{◌≡◌, ◌++◌, map, drop}
use Rattle.emit_places.specs.Sorted.{inner_view}
use Rattle.emit_sorting.proofs.filling.copies.Given as goal

abbrev pub invariant-loop-inner : goal.invariant-loop-inner
invariant-loop-inner l = map inner_view l.made ++ map inner_view (drop l.inner-index l.inside) ≡ map inner_view l.inside
