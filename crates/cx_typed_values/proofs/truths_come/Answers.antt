use Rattle.cx_typed_values.proofs.UnaryValues.{truth_of_value}
use Rattle.cx_typed_values.proofs.truths_come.Goals as goal

pub returns : goal.returns
returns c = truth_of_value
