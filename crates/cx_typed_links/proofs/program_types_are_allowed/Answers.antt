use Rattle.cx_typed_links.proofs.Stays.{program_types_are_allowed}
use Rattle.cx_typed_links.proofs.program_types_are_allowed.Goals as goal

pub returns : goal.returns
returns c = program_types_are_allowed
