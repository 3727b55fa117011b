use Rattle.cx_typed.proofs.Filled.{values_fill}
use Rattle.cx_typed.proofs.stored_values_fill.Goals as goal

pub returns : goal.returns
returns c = values_fill
