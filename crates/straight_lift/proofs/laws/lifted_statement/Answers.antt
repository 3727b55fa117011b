use Rattle.straight_lift.proofs.Shown.{statement_is_lifted}
use Rattle.straight_lift.proofs.laws.lifted_statement.Goals as goal

pub returns : goal.returns
returns c = statement_is_lifted
