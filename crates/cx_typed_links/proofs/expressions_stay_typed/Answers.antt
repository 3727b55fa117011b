use Rattle.cx_typed_links.proofs.Stays.{expressions_stay_typed}
use Rattle.cx_typed_links.proofs.expressions_stay_typed.Goals as goal

pub returns : goal.returns
returns c = expressions_stay_typed
