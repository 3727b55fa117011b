use Rattle.straight_rust_mean.proofs.Whole.{ended_stays}
use Rattle.straight_rust_mean.proofs.laws.ended_stays_ended.Goals as goal

pub returns : goal.returns
returns c = ended_stays
