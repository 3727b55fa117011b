use Rattle.lift_forms_laws.proofs.BitWrites.{writes, along}
use Rattle.lift_forms_laws.proofs.laws.bit_fields_store.Goals as goal

pub returns : goal.returns
returns c = record { writes = writes; along = along }
