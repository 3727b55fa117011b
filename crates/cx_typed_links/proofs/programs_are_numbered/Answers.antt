use Rattle.cx_typed_links.proofs.Stays.{programs_are_numbered}
use Rattle.cx_typed_links.proofs.programs_are_numbered.Goals as goal

pub returns : goal.returns
returns c = programs_are_numbered
