use Rattle.std.proofs.Common.{arith}
use Rattle.mem_region.proofs.Written.{one_more}
use Rattle.mem_region.proofs.packed.unpacked.Goals as goal

pub loop-index-preserved : goal.loop-index-preserved
loop-index-preserved c =
    one_more c.args.held.now _ _ _ c.loop-index.index _ c.loop-index-test.true (omega arith) c.loop-index.invariant c.cell.ensures.value
