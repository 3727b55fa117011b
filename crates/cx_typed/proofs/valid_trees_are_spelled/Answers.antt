use Rattle.cx_typed.proofs.Valid.{valid_trees}
use Rattle.cx_typed.proofs.valid_trees_are_spelled.Goals as goal

pub returns : goal.returns
returns c = valid_trees
