use Rattle.cx_typed_links.proofs.Stays.{unit_types_hold}
use Rattle.cx_typed_links.proofs.unit_types_hold.Goals as goal

pub returns : goal.returns
returns c = unit_types_hold
