use Rattle.lift_forms_laws.proofs.Bits.{reads}
use Rattle.lift_forms_laws.proofs.laws.bit_fields_give.Goals as goal

pub returns : goal.returns
returns c = record { reads = reads }
