use Rattle.cx_context.proofs.Completed.{none_laid}
use Rattle.cx_context.proofs.laws.none_is_laid.Goals as goal

pub returns : goal.returns
returns c = none_laid
