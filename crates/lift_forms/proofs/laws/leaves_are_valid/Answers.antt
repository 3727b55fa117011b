use Rattle.lift_forms.proofs.Validity.{constant_valid, zero_form_valid, function_form_valid, object_valid, address_form_valid}
use Rattle.lift_forms.proofs.laws.leaves_are_valid.Goals as goal

pub returns : goal.returns
returns c = record { constants = constant_valid; zeros = zero_form_valid; functions = function_form_valid; objects = object_valid; addresses = address_form_valid }
