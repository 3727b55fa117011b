use Rattle.cx_mean_laws.proofs.Unfolded.{asked_behind_steps}
use Rattle.cx_mean_laws.proofs.laws.asked_behind_steps.Goals as goal

pub returns : goal.returns
returns c = asked_behind_steps
