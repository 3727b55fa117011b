use Rattle.rs_mean.proofs.Trails.{trail_is_outside}
use Rattle.rs_mean.proofs.laws.trail_is_outside.Goals as goal

pub returns : goal.returns
returns c = trail_is_outside
