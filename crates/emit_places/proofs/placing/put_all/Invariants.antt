use Rattle.std.proofs.Common.{◌≡◌, map, drop}
use Rattle.emit_nests.specs.Views.{nest_view}
use Rattle.emit_rules.specs.Sorting.{nothing_sorted, put_all}
use Rattle.emit_places.specs.Sorted.{sorted_view}
use Rattle.flow.specs.Views.{flow_view}
use Rattle.emit_places.proofs.placing.put_all.Given as goal

abbrev pub invariant-loop-nest : goal.invariant-loop-nest
invariant-loop-nest l = record {
  counted : l.number ≡ l.nest-index;
  sorted : put_all (flow_view l.flow) l.may_go_inside l.after (sorted_view l.sorted) (map nest_view (drop l.nest-index l.nests)) ≡ put_all (flow_view l.flow) l.may_go_inside l.after nothing_sorted (map nest_view l.nests);
}
