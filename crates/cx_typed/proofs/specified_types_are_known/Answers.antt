use Rattle.cx_typed.proofs.Specified.{specified}
use Rattle.cx_typed.proofs.specified_types_are_known.Goals as goal

pub returns : goal.returns
returns c = specified
