use Rattle.std.proofs.Common.{◌≡◌, ◌++◌, map, drop}
use Rattle.std.specs.List.{filter}
use Rattle.emit_nests.specs.Views.{nest_view}
use Rattle.emit_rules.specs.Sorting as sorting
use Rattle.emit_rules.specs.Sorting.{nest_of}
use Rattle.emit_places.specs.Sorted.{inner_view}
use Rattle.reloop.specs.Graphs.{is_in}
use Rattle.emit_sorting.proofs.filling.put_held.Given as goal

abbrev pub invariant-loop-inner : goal.invariant-loop-inner
invariant-loop-inner l =
    map nest_view l.made ++ map nest_of (filter (λ (inner : sorting.Inner). is_in inner.node l.nodes) (map inner_view (drop l.inner-index l.inside)))
    ≡ map nest_view l.initial.made ++ map nest_of (filter (λ (inner : sorting.Inner). is_in inner.node l.nodes) (map inner_view l.inside))
