use Rattle.straight_core.proofs.Examples.{linked}
use Rattle.straight_core.proofs.laws.example_is_linked.Goals as goal

pub returns : goal.returns
returns c = linked
