use Rattle.cx_typed_links.proofs.LinksHold.{linked_units_make_programs}
use Rattle.cx_typed_links.proofs.linked_units_make_programs.Goals as goal

pub returns : goal.returns
returns c = linked_units_make_programs
