use Rattle.whole_items.proofs.Bodies.{bodies_inside}
use Rattle.whole_items.proofs.laws.bodies_are_inside.Goals as goal

pub returns : goal.returns
returns c = bodies_inside
