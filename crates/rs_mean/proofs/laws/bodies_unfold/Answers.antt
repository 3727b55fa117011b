use Rattle.rs_mean.proofs.Unfolded.{bodies_unfold}
use Rattle.rs_mean.proofs.laws.bodies_unfold.Goals as goal

pub returns : goal.returns
returns c = bodies_unfold
