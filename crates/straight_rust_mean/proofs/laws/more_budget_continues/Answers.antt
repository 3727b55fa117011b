use Rattle.straight_rust_mean.proofs.Whole.{more_budget}
use Rattle.straight_rust_mean.proofs.laws.more_budget_continues.Goals as goal

pub returns : goal.returns
returns c = more_budget
