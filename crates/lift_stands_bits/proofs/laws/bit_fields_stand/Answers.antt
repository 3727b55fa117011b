use Rattle.lift_stands_bits.proofs.Fields.{field_loaded, field_by_bytes, field_leaves}
use Rattle.lift_stands_bits.proofs.laws.bit_fields_stand.Goals as goal

pub returns : goal.returns
returns c = record {
  load = λ images memory others at to bit width field in_bytes stands place. field_loaded images memory others at to bit width field in_bytes stands place;
  store = λ images memory after others at to bit width field in_bytes stands place small. field_by_bytes images memory after others at to bit width field in_bytes stands place small;
  leaves = field_leaves;
}
