use Rattle.cx_stays.proofs.ReachStates.{unreached_stays}
use Rattle.cx_stays.proofs.unreached_stays.Goals as goal

pub returns : goal.returns
returns c = unreached_stays
