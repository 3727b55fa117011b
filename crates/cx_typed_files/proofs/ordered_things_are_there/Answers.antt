use Rattle.cx_typed_files.proofs.Ordered.{ordered_things}
use Rattle.cx_typed_files.proofs.ordered_things_are_there.Goals as goal

pub returns : goal.returns
returns c = ordered_things
