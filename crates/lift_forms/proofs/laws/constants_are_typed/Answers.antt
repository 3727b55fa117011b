use Rattle.lift_forms.proofs.Typed.{number_typed, truth_constant_typed, zero_of_typed, null_typed, function_typed}
use Rattle.lift_forms.proofs.laws.constants_are_typed.Goals as goal

pub returns : goal.returns
returns c = record { numbers = number_typed; truths = truth_constant_typed; zeros = zero_of_typed; nulls = null_typed; functions = function_typed }
