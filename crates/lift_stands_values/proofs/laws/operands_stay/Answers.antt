use Rattle.lift_stands_values.proofs.Ranges.{operand_stays}
use Rattle.lift_stands_values.proofs.laws.operands_stay.Goals as goal

pub returns : goal.returns
returns c = operand_stays
