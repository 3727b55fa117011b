use Rattle.cx_mean.proofs.KeptWork.{stays_in_any_order}
use Rattle.cx_mean.proofs.laws.unwritten_stays_in_any_order.Goals as goal

pub returns : goal.returns
returns c = stays_in_any_order
