use Rattle.std.proofs.Common.{rules, arith}
use Rattle.lift_forms_bits.proofs.Steps.{kept_on}
use Rattle.lift_forms_bits.proofs.writes.more_writes.Goals as goal

pub loop-behind-preserved : goal.loop-behind-preserved
loop-behind-preserved c =
    let before = c.loop-behind.invariant in
    record {
      all = kept_on _ _ _ _ _ _ _ _ c.loop-behind.made _ c.in_ok-byte_write.field-0 _ (search rules) (search rules) (search rules) (search rules) before.all;
      bits = search (rules, arith);
    }
