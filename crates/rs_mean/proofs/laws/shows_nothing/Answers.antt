use Rattle.rs_mean.proofs.Silent.{shows_nothing}
use Rattle.rs_mean.proofs.laws.shows_nothing.Goals as goal

pub returns : goal.returns
returns c = shows_nothing
