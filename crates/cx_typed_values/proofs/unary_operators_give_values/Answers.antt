use Rattle.cx_typed_values.proofs.UnaryValues.{unary_values}
use Rattle.cx_typed_values.proofs.unary_operators_give_values.Goals as goal

pub returns : goal.returns
returns c = unary_values
