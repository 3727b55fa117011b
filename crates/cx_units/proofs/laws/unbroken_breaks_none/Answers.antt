use Rattle.std.proofs.Common.{rules}
use Rattle.cx_units.proofs.Units.{unbroken_breaks_none}
use Rattle.cx_units.proofs.laws.unbroken_breaks_none.Goals as goal

pub returns : goal.returns
returns c = unbroken_breaks_none
