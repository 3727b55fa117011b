use Rattle.cx_typed_values.proofs.Operators.{operators}
use Rattle.cx_typed_values.proofs.operators_give_numbers.Goals as goal

pub returns : goal.returns
returns c = operators
