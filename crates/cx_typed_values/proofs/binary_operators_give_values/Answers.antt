use Rattle.cx_typed_values.proofs.BinaryValues.{binary_values}
use Rattle.cx_typed_values.proofs.binary_operators_give_values.Goals as goal

pub returns : goal.returns
returns c = binary_values
