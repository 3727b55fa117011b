use Rattle.cx_mean.proofs.Events.{events_only_grow}
use Rattle.cx_mean.proofs.laws.events_only_grow.Goals as goal

pub returns : goal.returns
returns c = events_only_grow
