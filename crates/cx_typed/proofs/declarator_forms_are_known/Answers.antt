use Rattle.cx_typed.proofs.Declarators.{declarators}
use Rattle.cx_typed.proofs.declarator_forms_are_known.Goals as goal

pub returns : goal.returns
returns c = declarators
