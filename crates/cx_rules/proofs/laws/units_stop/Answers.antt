use Rattle.cx_rules.proofs.UnitLaw.{units_stop}
use Rattle.cx_rules.proofs.laws.units_stop.Goals as goal

pub returns : goal.returns
returns c = units_stop
