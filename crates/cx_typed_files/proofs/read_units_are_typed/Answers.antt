use Rattle.cx_typed_files.proofs.ValidUnits.{read_units}
use Rattle.cx_typed_files.proofs.read_units_are_typed.Goals as goal

pub returns : goal.returns
returns c = read_units
