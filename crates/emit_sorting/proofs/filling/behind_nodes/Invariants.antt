use Rattle.std.proofs.Common.{◌≡◌, ◌++◌, map, drop}
use Rattle.emit_nests.specs.Views.{nest_view}
use Rattle.emit_rules.specs.Sorting.{behind_nodes}
use Rattle.emit_places.specs.Sorted.{inner_view}
use Rattle.emit_sorting.proofs.filling.behind_nodes.Given as goal

abbrev pub invariant-loop-nest : goal.invariant-loop-nest
invariant-loop-nest l = map nest_view l.made ++ behind_nodes (map nest_view (drop l.nest-index l.nests)) (map inner_view l.left) ≡ behind_nodes (map nest_view l.nests) (map inner_view l.inside)
