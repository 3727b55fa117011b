use Rattle.rs_mean.proofs.Extended.{ended_stays}
use Rattle.rs_mean.proofs.laws.ended_stays_ended.Goals as goal

pub returns : goal.returns
returns c = ended_stays
