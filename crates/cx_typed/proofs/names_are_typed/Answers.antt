use Rattle.cx_typed.proofs.Names.{names}
use Rattle.cx_typed.proofs.names_are_typed.Goals as goal

pub returns : goal.returns
returns c = names
