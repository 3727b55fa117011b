use Rattle.cx_core.proofs.Examples.{linked}
use Rattle.cx_core.proofs.laws.example_is_linked.Goals as goal

pub returns : goal.returns
returns c = linked
