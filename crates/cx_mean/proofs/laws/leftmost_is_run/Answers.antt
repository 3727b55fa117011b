use Rattle.cx_mean.proofs.Functions.{leftmost_is_run}
use Rattle.cx_mean.proofs.laws.leftmost_is_run.Goals as goal

pub returns : goal.returns
returns c = leftmost_is_run
