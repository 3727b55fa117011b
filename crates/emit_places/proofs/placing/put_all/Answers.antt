use Rattle.std.proofs.Common.{◌∙◌, ◌+◌, nat_lt, map, ap, refl, arith}
use Rattle.emit_places.proofs.Placed.{put_more}
use Rattle.emit_places.specs.Ahead.{place_in}
use Rattle.emit_places.specs.Places.{leaving_view}
use Rattle.emit_places.specs.Sorted.{sorted_view}
use Rattle.flow.specs.Views.{flow_view}
use Rattle.emit_places.proofs.placing.put_all.Goals as goal

pub loop-nest-preserved : goal.loop-nest-preserved
loop-nest-preserved c = record {
  counted = let e = c.loop-nest.invariant.counted in omega (arith, e);
  sorted = put_more (flow_view c.args.flow.now) c.args.may_go_inside c.args.after.now (sorted_view c.loop-nest.sorted) (sorted_view c.in_ok-sorted.sorted) c.args.nests.now c.args.nests.now c.loop-nest.nest-index c.nest-item.result
      (λ node. nat_lt (c.loop-nest.number + 1) (place_in c.in_ok-places.places node)) (map leaving_view c.as_slice.result.now) c.count_ahead-more.result _ refl c.nest-item.is c.loop-nest-test.true
      (λ node. ap (λ number. nat_lt (number + 1) (place_in c.in_ok-places.places node)) c.loop-nest.invariant.counted
      ∙ c.in_ok-places.ensures node (c.loop-nest.nest-index + 1) (let within = c.loop-nest-test.true in omega (arith, within)))
      (ap (map leaving_view) c.as_slice.ensures ∙ c.in_ok-ways.ensures) c.count_ahead-more.ensures c.in_ok-sorted.ensures c.loop-nest.invariant.sorted;
}
