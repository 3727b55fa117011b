use Rattle.cx_mean.proofs.Statics.{statics_begin}
use Rattle.cx_mean.proofs.laws.statics_begin.Goals as goal

pub returns : goal.returns
returns c = statics_begin
