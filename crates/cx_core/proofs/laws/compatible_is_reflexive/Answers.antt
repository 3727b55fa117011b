use Rattle.cx_core.proofs.Relation.{compatible_reflexive}
use Rattle.cx_core.proofs.laws.compatible_is_reflexive.Goals as goal

pub returns : goal.returns
returns c = compatible_reflexive
