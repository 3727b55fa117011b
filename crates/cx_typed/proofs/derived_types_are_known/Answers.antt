use Rattle.cx_typed.proofs.Derived.{derived_known}
use Rattle.cx_typed.proofs.derived_types_are_known.Goals as goal

pub returns : goal.returns
returns c = derived_known
