use Rattle.cx_typed_units.proofs.Forms.{statements}
use Rattle.cx_typed_units.proofs.statements_are_typed.Goals as goal

pub returns : goal.returns
returns c = statements
