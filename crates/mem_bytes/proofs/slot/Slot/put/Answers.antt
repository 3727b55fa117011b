use Rattle.std.proofs.Common.{All, sym, subst}
use Rattle.mem_bytes.specs.Calls.{IsCell}
use Rattle.mem_bytes.proofs.Puts.{part_written}
use Rattle.mem_bytes.proofs.slot.Slot.put.Goals as goal

pub invariant_of-self : goal.invariant_of-self
invariant_of-self c =
    part_written _ _ _ _ _ _ _ (subst (All IsCell) (sym c.as_mut_slice.ensures.value) c.self.invariant) c.write_value.ensures.held c.self.invariant
