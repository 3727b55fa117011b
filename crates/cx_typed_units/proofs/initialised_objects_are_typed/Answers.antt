use Rattle.cx_typed_units.proofs.Filling.{initialisers_go}
use Rattle.cx_typed_units.proofs.initialised_objects_are_typed.Goals as goal

pub returns : goal.returns
returns c = initialisers_go
