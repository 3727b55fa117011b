use Rattle.std.proofs.Common.{◌≡◌, ◌++◌, ◌+◌, ◌*◌, map, drop}
use Rattle.emit_nests.specs.Views.{nest_view}
use Rattle.emit_rules.specs.Nests.{chain}
use Rattle.emit_rules.specs.Sorting.{all_level}
use Rattle.flow.specs.Views.{flow_view}
use Rattle.emit_sorting.proofs.levels.+levels.Given as goal

abbrev pub decreases-level : goal.decreases-level
decreases-level l = 3 * goal.size-level l

abbrev pub decreases-all_level : goal.decreases-all_level
decreases-all_level l = 3 * goal.size-all_level l + 1

abbrev pub decreases-level_list : goal.decreases-level_list
decreases-level_list l = 3 * goal.size-level_list l + 2

abbrev pub invariant-all_level-loop-nest : goal.invariant-all_level-loop-nest
invariant-all_level-loop-nest l = map nest_view l.made ++ all_level (flow_view l.flow) (chain (map nest_view (drop l.nest-index l.nests))) ≡ all_level (flow_view l.flow) (chain (map nest_view l.nests))
