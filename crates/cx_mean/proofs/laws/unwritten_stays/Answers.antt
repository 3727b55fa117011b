use Rattle.cx_mean.proofs.Unwritten.{unwritten_stays}
use Rattle.cx_mean.proofs.laws.unwritten_stays.Goals as goal

pub returns : goal.returns
returns c = unwritten_stays
