use Rattle.straight_mean.proofs.Programs.{leftmost_is_run}
use Rattle.straight_mean.proofs.laws.leftmost_is_run.Goals as goal

pub returns : goal.returns
returns c = leftmost_is_run
