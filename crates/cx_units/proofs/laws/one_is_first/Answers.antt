use Rattle.std.proofs.Common.{rules}
use Rattle.cx_units.proofs.Units.{one_is_first}
use Rattle.cx_units.proofs.laws.one_is_first.Goals as goal

pub returns : goal.returns
returns c = one_is_first
