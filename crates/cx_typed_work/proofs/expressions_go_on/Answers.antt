use Rattle.cx_typed_work.proofs.GoesOn.{expressions_go_on}
use Rattle.cx_typed_work.proofs.expressions_go_on.Goals as goal

pub returns : goal.returns
returns c = expressions_go_on
