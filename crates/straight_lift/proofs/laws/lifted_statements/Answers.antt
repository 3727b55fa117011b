use Rattle.straight_lift.proofs.Shown.{statements_are_lifted}
use Rattle.straight_lift.proofs.laws.lifted_statements.Goals as goal

pub returns : goal.returns
returns c = statements_are_lifted
