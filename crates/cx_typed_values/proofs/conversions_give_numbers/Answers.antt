use Rattle.cx_typed_values.proofs.Ranges.{converted_in_range}
use Rattle.cx_typed_values.proofs.conversions_give_numbers.Goals as goal

pub returns : goal.returns
returns c = converted_in_range
