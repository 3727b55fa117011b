use Rattle.lift_stands.proofs.Images.{same_pointers}
use Rattle.lift_stands.proofs.laws.same_pointers_stay.Goals as goal

pub returns : goal.returns
returns c = same_pointers
