use Rattle.rs_mean_frames.proofs.Framed.{loops_unfold}
use Rattle.rs_mean_frames.proofs.laws.loops_unfold.Goals as goal

pub returns : goal.returns
returns c = loops_unfold
