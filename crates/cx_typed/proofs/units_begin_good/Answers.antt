use Rattle.cx_typed.proofs.Begins.{begins_good}
use Rattle.cx_typed.proofs.units_begin_good.Goals as goal

pub returns : goal.returns
returns c = begins_good
