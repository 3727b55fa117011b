use Rattle.cx_work.proofs.Summed.{sums_on}
use Rattle.cx_work.proofs.counts.+count.Goals as goal

pub counted_among-loop-one-preserved : goal.counted_among-loop-one-preserved
counted_among-loop-one-preserved t c =
    sums_on _ _ _ _ _ _ c.loop-one-test.true c.one-item.is c.counted.ensures c.sum-count.ensures c.loop-one.invariant
