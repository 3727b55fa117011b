use Rattle.straight_lift.proofs.Shown.{bodies_give}
use Rattle.straight_lift.proofs.laws.bodies_give.Goals as goal

pub returns : goal.returns
returns c = bodies_give
