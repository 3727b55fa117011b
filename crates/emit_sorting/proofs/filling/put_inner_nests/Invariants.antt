use Rattle.std.proofs.Common.{◌≡◌, ◌++◌, map}
use Rattle.emit_nests.specs.Views.{nest_view}
use Rattle.emit_rules.specs.Sorting.{nest_of}
use Rattle.emit_places.specs.Sorted.{inner_view}
use Rattle.emit_sorting.proofs.filling.put_inner_nests.Given as goal

abbrev pub invariant-loop-inner : goal.invariant-loop-inner
invariant-loop-inner l = map nest_view l.made ++ map nest_of (map inner_view l.inner-iterator.rest.items) ≡ map nest_view l.initial.made ++ map nest_of (map inner_view l.fn.inside)
