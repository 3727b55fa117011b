use Rattle.cx_typed_links.proofs.Stays.{units_make_programs}
use Rattle.cx_typed_links.proofs.units_make_programs.Goals as goal

pub returns : goal.returns
returns c = units_make_programs
