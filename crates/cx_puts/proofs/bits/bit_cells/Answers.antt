use Rattle.std.proofs.Common.{◌+◌, ◌-◌, arith}
use Rattle.cx_puts.proofs.Numbers.{cells_step, left_step}
use Rattle.cx_puts.proofs.bits.bit_cells.Goals as goal

pub loop-index-preserved : goal.loop-index-preserved
loop-index-preserved c =
    let index = c.loop-index.index in
    let kept = c.loop-index.invariant in
    record {
      written = cells_step _ index c.args.bits c.args.set _ _ (8 - (index + 1)) (omega arith) (omega arith) kept.written kept.bits_left kept.set_left;
      bits_left = left_step _ _ index kept.bits_left;
      set_left = left_step _ _ index kept.set_left;
    }
