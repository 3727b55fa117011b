use Rattle.cx_layout.proofs.Place.{lies_inside}
use Rattle.cx_layout.proofs.laws.members_lie_inside.Goals as goal

pub returns : goal.returns
returns c = lies_inside
