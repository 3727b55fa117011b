use Rattle.cx_mean_laws.proofs.Unfolded.{unfinished_takes}
use Rattle.cx_mean_laws.proofs.laws.unfinished_takes.Goals as goal

pub returns : goal.returns
returns c = unfinished_takes
