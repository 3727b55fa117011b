use Rattle.straight_lift.proofs.Shown.{statements_are_silent}
use Rattle.straight_lift.proofs.laws.silent_statements.Goals as goal

pub returns : goal.returns
returns c = statements_are_silent
