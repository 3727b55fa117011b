use Rattle.cx_typed_links.proofs.Stays.{unit_types_stand}
use Rattle.cx_typed_links.proofs.unit_types_stand.Goals as goal

pub returns : goal.returns
returns c = unit_types_stand
