use Rattle.cx_typed_sizes.proofs.Pointers.{same_pointers}
use Rattle.cx_typed_sizes.proofs.same_pointers.Goals as goal

pub returns : goal.returns
returns c = same_pointers
