use Rattle.std.proofs.Common.{rules}
use Rattle.cx_units.proofs.Units.{one_meaning}
use Rattle.cx_units.proofs.laws.one_meaning.Goals as goal

pub returns : goal.returns
returns c = one_meaning
