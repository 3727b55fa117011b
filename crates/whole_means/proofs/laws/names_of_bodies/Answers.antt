use Rattle.whole_means.proofs.Together.{bodies_named}
use Rattle.whole_means.proofs.laws.names_of_bodies.Goals as goal

pub returns : goal.returns
returns c = bodies_named
