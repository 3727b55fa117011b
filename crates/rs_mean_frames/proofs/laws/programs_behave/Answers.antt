use Rattle.rs_mean_frames.proofs.Framed.{programs_behave}
use Rattle.rs_mean_frames.proofs.laws.programs_behave.Goals as goal

pub returns : goal.returns
returns c = programs_behave
