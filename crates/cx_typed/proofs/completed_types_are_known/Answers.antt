use Rattle.cx_typed.proofs.Filled.{completed_known}
use Rattle.cx_typed.proofs.completed_types_are_known.Goals as goal

pub returns : goal.returns
returns c = completed_known
