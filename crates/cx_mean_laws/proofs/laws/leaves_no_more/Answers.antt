use Rattle.cx_mean_laws.proofs.Unfolded.{leaves_no_more}
use Rattle.cx_mean_laws.proofs.laws.leaves_no_more.Goals as goal

pub returns : goal.returns
returns c = leaves_no_more
