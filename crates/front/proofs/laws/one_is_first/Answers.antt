use Rattle.front.proofs.Causes.{one_is_first}
use Rattle.front.proofs.laws.one_is_first.Goals as goal

pub returns : goal.returns
returns _ = one_is_first
