use Rattle.cx_core.proofs.Relation.{compatible_symmetric}
use Rattle.cx_core.proofs.laws.compatible_is_symmetric.Goals as goal

pub returns : goal.returns
returns c = compatible_symmetric
