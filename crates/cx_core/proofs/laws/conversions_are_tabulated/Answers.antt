use Rattle.cx_core.proofs.Conversion.{common_tabulated}
use Rattle.cx_core.proofs.laws.conversions_are_tabulated.Goals as goal

pub returns : goal.returns
returns c = common_tabulated
