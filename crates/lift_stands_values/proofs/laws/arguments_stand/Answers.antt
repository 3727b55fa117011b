use Rattle.lift_stands_values.proofs.Arguments.{arguments_seen, values_given}
use Rattle.lift_stands_values.proofs.laws.arguments_stand.Goals as goal

pub returns : goal.returns
returns c = record { seen = arguments_seen; values = values_given }
