use Rattle.straight_lift.proofs.Shown.{expression_is_lifted}
use Rattle.straight_lift.proofs.laws.lifted_expression.Goals as goal

pub returns : goal.returns
returns c = expression_is_lifted
