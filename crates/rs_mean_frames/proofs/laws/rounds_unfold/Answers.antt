use Rattle.rs_mean_frames.proofs.Framed.{turns_unfold}
use Rattle.rs_mean_frames.proofs.laws.rounds_unfold.Goals as goal

pub returns : goal.returns
returns g c = λ turn behave state world units. turns_unfold _ _ turn behave state world units
