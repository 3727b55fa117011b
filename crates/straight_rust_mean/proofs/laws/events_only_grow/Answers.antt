use Rattle.straight_rust_mean.proofs.Whole.{events_grow}
use Rattle.straight_rust_mean.proofs.laws.events_only_grow.Goals as goal

pub returns : goal.returns
returns c = events_grow
