use Rattle.cx_mean.proofs.GoodPairs.{compatible_types_are_found}
use Rattle.cx_mean.proofs.laws.compatible_types_are_found.Goals as goal

pub returns : goal.returns
returns c = compatible_types_are_found
