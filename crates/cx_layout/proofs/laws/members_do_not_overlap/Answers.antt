use Rattle.cx_layout.proofs.Place.{stands_apart}
use Rattle.cx_layout.proofs.laws.members_do_not_overlap.Goals as goal

pub returns : goal.returns
returns c = stands_apart
