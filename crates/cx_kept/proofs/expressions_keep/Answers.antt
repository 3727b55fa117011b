use Rattle.cx_kept.proofs.Walks.{expressions_keep}
use Rattle.cx_kept.proofs.expressions_keep.Goals as goal

pub returns : goal.returns
returns c = expressions_keep
