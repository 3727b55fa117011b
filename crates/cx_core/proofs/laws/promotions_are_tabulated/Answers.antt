use Rattle.cx_core.proofs.Conversion.{promotion_tabulated}
use Rattle.cx_core.proofs.laws.promotions_are_tabulated.Goals as goal

pub returns : goal.returns
returns c = promotion_tabulated
