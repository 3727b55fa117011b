use Rattle.std.proofs.Common.{arith}
use Rattle.mem_bytes.proofs.Puts.{pointer_written}
use Rattle.mem_bytes.proofs.coding.write_pointer.Goals as goal

pub loop-index-preserved : goal.loop-index-preserved
loop-index-preserved c =
    pointer_written c.loop-index.cells c.args.cells.now c.args.of c.loop-index.index c.requires (omega arith) c.loop-index.invariant
