use Rattle.cx_core.proofs.Conversion.{common_promoted}
use Rattle.cx_core.proofs.laws.common_is_promoted.Goals as goal

pub returns : goal.returns
returns c = common_promoted
