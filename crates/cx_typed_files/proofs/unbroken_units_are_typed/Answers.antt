use Rattle.cx_typed_files.proofs.UnbrokenUnits.{units_are_typed}
use Rattle.cx_typed_files.proofs.unbroken_units_are_typed.Goals as goal

pub returns : goal.returns
returns c = units_are_typed
