use Rattle.straight_lift.proofs.Numbers.{numbers_stay}
use Rattle.straight_lift.proofs.laws.numbers_stay.Goals as goal

pub returns : goal.returns
returns c = numbers_stay
