use Rattle.std.proofs.Common.{◌≡◌, ◌++◌, ◌+◌, ◌*◌, map, drop}
use Rattle.reloop.specs.Shapes.{shape_view, shapes}
use Rattle.emit_rules.specs.Nests.{all_flat}
use Rattle.emit_nests.specs.Views.{nest_view}
use Rattle.emit_nests.proofs.flattening.+flattening.Given as goal

abbrev pub decreases-flat : goal.decreases-flat
decreases-flat l = 2 * goal.size-flat l

abbrev pub decreases-all_flat : goal.decreases-all_flat
decreases-all_flat l = 2 * goal.size-all_flat l + 1

abbrev pub invariant-all_flat-loop-member : goal.invariant-all_flat-loop-member
invariant-all_flat-loop-member l = map nest_view l.list ++ all_flat (shapes (map shape_view (drop l.member-index l.members))) ≡ all_flat (shapes (map shape_view l.members))
