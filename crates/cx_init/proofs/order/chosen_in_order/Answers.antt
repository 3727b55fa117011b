use Rattle.std.proofs.Common.{map, reverse}
use Rattle.cx_init.proofs.Ordering.{step_same, step_count, step_onto}
use Rattle.cx_init.specs.Views.{view_stored}
use Rattle.cx_init.proofs.order.chosen_in_order.Goals as goal

pub loop-index-preserved : goal.loop-index-preserved
loop-index-preserved c = record {
  same = step_same c.loop-index.flags c.pop-in-loop-index.new.self c.in-Some-pop.is_kept c.loop-index.left c.pop.new.self c.in-Some.one c.in-Some-pop.ensures c.in-Some.ensures c.loop-index.invariant.same;
  count = step_count c.loop-index.left c.pop.new.self c.in-Some.one c.loop-index._index _ c.in-Some.ensures c.loop-index.invariant.count;
  onto = step_onto view_stored c.loop-index.flags c.pop-in-loop-index.new.self c.in-Some-pop.is_kept c.loop-index.left c.pop.new.self c.in-Some.one
      (reverse (map view_stored c.loop-index.sorted.items)) (reverse (map view_stored c.keep_flagged.new.sorted.items)) _
      c.in-Some-pop.ensures c.in-Some.ensures c.loop-index.invariant.same c.loop-index.invariant.onto c.in_ok-keep_flagged.ensures;
}
