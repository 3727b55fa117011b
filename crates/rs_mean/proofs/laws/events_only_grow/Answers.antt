use Rattle.rs_mean.proofs.Extended.{events_grow}
use Rattle.rs_mean.proofs.laws.events_only_grow.Goals as goal

pub returns : goal.returns
returns c = events_grow
