use Rattle.lift_does.proofs.Lifting.{lifting_does}
use Rattle.lift_does.proofs.lifting_does.Goals as goal

pub returns : goal.returns
returns c = lifting_does
