use Rattle.cx_typed_units.proofs.Declarations.{declarations_go}
use Rattle.cx_typed_units.proofs.declarations_are_typed.Goals as goal

pub returns : goal.returns
returns c = declarations_go
