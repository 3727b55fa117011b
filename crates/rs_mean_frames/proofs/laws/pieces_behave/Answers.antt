use Rattle.rs_mean_frames.proofs.Framed.{pieces_behave}
use Rattle.rs_mean_frames.proofs.laws.pieces_behave.Goals as goal

pub returns : goal.returns
returns c = pieces_behave
