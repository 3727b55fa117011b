use Rattle.lift_forms.proofs.TypedBits.{read_typed, writes_typed}
use Rattle.lift_forms.proofs.laws.bit_fields_are_typed.Goals as goal

pub returns : goal.returns
returns c = record { reads = read_typed; writes = writes_typed }
