use Rattle.cx_typed.proofs.Constants.{constants}
use Rattle.cx_typed.proofs.constants_are_typed.Goals as goal

pub returns : goal.returns
returns c = constants
