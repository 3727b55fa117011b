use Rattle.straight_lift.proofs.Shown.{bodies_do_not_matter}
use Rattle.straight_lift.proofs.laws.bodies_dont_matter.Goals as goal

pub returns : goal.returns
returns c = bodies_do_not_matter
