use Rattle.std.proofs.Common.{rules}
use Rattle.mem_bytes.proofs.Bytes.{left_step}
use Rattle.mem_bytes.proofs.Puts.{byte_written}
use Rattle.mem_bytes.proofs.coding.write_number.Goals as goal

pub loop-index-preserved : goal.loop-index-preserved
loop-index-preserved c =
    let index = c.loop-index.index in
    let kept = c.loop-index.invariant in
    record {
      written = byte_written c.loop-index.cells c.args.cells.now index c.args.number c.loop-index.left (search rules) kept.written kept.left;
      left = left_step _ _ index kept.left;
    }
