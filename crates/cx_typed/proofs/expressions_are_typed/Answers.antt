use Rattle.cx_typed.proofs.Spelled.{spelled_trees}
use Rattle.cx_typed.proofs.expressions_are_typed.Goals as goal

pub returns : goal.returns
returns c = spelled_trees
