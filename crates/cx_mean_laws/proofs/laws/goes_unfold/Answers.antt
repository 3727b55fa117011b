use Rattle.cx_mean_laws.proofs.Unfolded.{goes_unfold}
use Rattle.cx_mean_laws.proofs.laws.goes_unfold.Goals as goal

pub returns : goal.returns
returns c = goes_unfold
