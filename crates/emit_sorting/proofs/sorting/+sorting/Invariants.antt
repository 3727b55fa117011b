use Rattle.std.proofs.Common.{◌≡◌, ◌++◌, ◌+◌, ◌*◌, length, map, drop}
use Rattle.emit_nests.specs.Views.{chain_view}
use Rattle.emit_rules.specs.Sorting.{all_filled, sorted_within}
use Rattle.emit_places.specs.Sorted.{inner_view, sibling_view}
use Rattle.emit_sorting.specs.Chained.{ranked_view}
use Rattle.emit_sorting.proofs.Filled.{ArmsMade}
use Rattle.flow.specs.Views.{flow_view}
use Rattle.emit_sorting.proofs.sorting.+sorting.Given as goal

abbrev pub decreases-sort : goal.decreases-sort
decreases-sort l = 7 * l.depth

abbrev pub decreases-all_filled : goal.decreases-all_filled
decreases-all_filled l = 7 * l.depth + 6

abbrev pub decreases-ranked_of : goal.decreases-ranked_of
decreases-ranked_of l = 7 * l.depth + 5

abbrev pub decreases-filled : goal.decreases-filled
decreases-filled l = 7 * l.depth + 4

abbrev pub decreases-node_arms : goal.decreases-node_arms
decreases-node_arms l = 7 * l.depth + 3

abbrev pub decreases-head_arms : goal.decreases-head_arms
decreases-head_arms l = 7 * l.depth + 2

abbrev pub decreases-arm_of : goal.decreases-arm_of
decreases-arm_of l = 7 * l.depth + 1

abbrev pub decreases-body_of : goal.decreases-body_of
decreases-body_of l = 7 * l.depth + 1

abbrev pub invariant-all_filled-loop-sibling : goal.invariant-all_filled-loop-sibling
invariant-all_filled-loop-sibling l = record {
  counted : l.next ≡ l.sibling-index;
  made : map ranked_view l.made ++ all_filled (flow_view l.flow) (sorted_within (flow_view l.flow) l.depth) l.after (map sibling_view (drop l.sibling-index l.siblings))
      ≡ all_filled (flow_view l.flow) (sorted_within (flow_view l.flow) l.depth) l.after (map sibling_view l.siblings);
}

abbrev pub invariant-head_arms-loop-arm : goal.invariant-head_arms-loop-arm
invariant-head_arms-loop-arm l = ArmsMade (sorted_within (flow_view l.flow) l.depth) l.after (map inner_view l.inside) (length l.heads) l.arm (map chain_view l.made)
