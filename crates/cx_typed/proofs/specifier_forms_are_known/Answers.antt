use Rattle.cx_typed.proofs.Specifiers.{specifiers}
use Rattle.cx_typed.proofs.specifier_forms_are_known.Goals as goal

pub returns : goal.returns
returns c = specifiers
