use Rattle.cx_typed_links.proofs.Programs.{names_hold_in_programs}
use Rattle.cx_typed_links.proofs.names_hold_in_programs.Goals as goal

pub returns : goal.returns
returns c = names_hold_in_programs
