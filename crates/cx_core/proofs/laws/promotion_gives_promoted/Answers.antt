use Rattle.cx_core.proofs.Conversion.{promoted_is_promoted}
use Rattle.cx_core.proofs.laws.promotion_gives_promoted.Goals as goal

pub returns : goal.returns
returns c = promoted_is_promoted
