use Rattle.build_flow_bodies.proofs.Bodies.{bodies_follow}
use Rattle.build_flow_bodies.proofs.laws.bodies_follow.Goals as goal

pub returns : goal.returns
returns c = bodies_follow
