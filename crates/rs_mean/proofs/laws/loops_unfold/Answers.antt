use Rattle.rs_mean.proofs.Unfolded.{loops_unfold}
use Rattle.rs_mean.proofs.laws.loops_unfold.Goals as goal

pub returns : goal.returns
returns c = loops_unfold
