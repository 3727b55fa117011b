use Rattle.cx_core.specs.Layouts.{row_at}
use Rattle.whole_records.proofs.Spots.{one_more}
use Rattle.whole_records.proofs.laid.spots_of.Goals as goal

pub loop-index-preserved : goal.loop-index-preserved
loop-index-preserved c = λ row is.
    one_more row (row_at c.args.layouts.now c.args.number) c.loop-index.index c.in-Some.spot c.spot.result c.loop-index.spots c.push.new.self is c.spot.ensures c.in-Some.is (c.loop-index.invariant row is)
    c.in_ok-push.ensures.ok
