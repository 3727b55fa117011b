use Rattle.cx_mean.proofs.Ended.{ended_runs_stay}
use Rattle.cx_mean.proofs.laws.ended_runs_stay.Goals as goal

pub returns : goal.returns
returns c = ended_runs_stay
