use Rattle.cx_typed_links.proofs.Programs.{program_things_are_typed}
use Rattle.cx_typed_links.proofs.program_things_are_typed.Goals as goal

pub returns : goal.returns
returns c = program_things_are_typed
