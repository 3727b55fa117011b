use Rattle.cx_typed.proofs.Operators.{operators}
use Rattle.cx_typed.proofs.operators_are_typed.Goals as goal

pub returns : goal.returns
returns c = operators
