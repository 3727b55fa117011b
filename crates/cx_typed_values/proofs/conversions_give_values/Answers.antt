use Rattle.cx_typed_values.proofs.ConvertedValues.{conversions}
use Rattle.cx_typed_values.proofs.conversions_give_values.Goals as goal

pub returns : goal.returns
returns c = conversions
