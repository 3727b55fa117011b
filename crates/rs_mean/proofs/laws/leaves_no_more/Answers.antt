use Rattle.rs_mean.proofs.Bounded.{leaves_no_more}
use Rattle.rs_mean.proofs.laws.leaves_no_more.Goals as goal

pub returns : goal.returns
returns c = leaves_no_more
