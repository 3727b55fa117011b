use Rattle.front.proofs.Causes.{translated_break_none}
use Rattle.front.proofs.laws.translated_break_none.Goals as goal

pub returns : goal.returns
returns _ = translated_break_none
