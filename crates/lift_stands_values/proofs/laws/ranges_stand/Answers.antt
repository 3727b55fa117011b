use Rattle.lift_stands_values.proofs.Ranges.{loaded_in_range, given_in_range}
use Rattle.lift_stands_values.proofs.laws.ranges_stand.Goals as goal

pub returns : goal.returns
returns c = record { loads = loaded_in_range; below = given_in_range }
