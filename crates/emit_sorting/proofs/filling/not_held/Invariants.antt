use Rattle.std.proofs.Common.{◌≡◌, ◌++◌, not, map}
use Rattle.std.specs.List.{filter}
use Rattle.emit_rules.specs.Sorting as sorting
use Rattle.emit_places.specs.Sorted.{inner_view}
use Rattle.reloop.specs.Graphs.{is_in}
use Rattle.emit_sorting.proofs.filling.not_held.Given as goal

abbrev pub invariant-loop-inner : goal.invariant-loop-inner
invariant-loop-inner l =
    map inner_view l.made ++ filter (λ (inner : sorting.Inner). not (is_in inner.node l.nodes)) (map inner_view l.inner-iterator.rest.items) ≡ filter (λ (inner : sorting.Inner). not (is_in inner.node l.nodes)) (map inner_view l.fn.inside)
