use Rattle.rs_mean_frames.proofs.Framed.{main_unfolds}
use Rattle.rs_mean_frames.proofs.laws.main_unfolds.Goals as goal

pub returns : goal.returns
returns c = main_unfolds
