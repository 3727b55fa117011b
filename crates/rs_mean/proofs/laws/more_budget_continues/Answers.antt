use Rattle.rs_mean.proofs.Extended.{more_budget}
use Rattle.rs_mean.proofs.laws.more_budget_continues.Goals as goal

pub returns : goal.returns
returns c = more_budget
