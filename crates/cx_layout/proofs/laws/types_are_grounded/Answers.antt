use Rattle.cx_layout.proofs.Grounded.{types_grounded}
use Rattle.cx_layout.proofs.laws.types_are_grounded.Goals as goal

pub returns : goal.returns
returns c = types_grounded
