use Rattle.straight_mean.proofs.Statics.{statics_begin}
use Rattle.straight_mean.proofs.laws.statics_begin_in_order.Goals as goal

pub returns : goal.returns
returns c = statics_begin
