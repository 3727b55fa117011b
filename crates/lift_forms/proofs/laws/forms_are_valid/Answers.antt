use Rattle.lift_forms.proofs.Validity.{value_valid, test_valid, unary_valid, binary_form_valid, both_valid, either_valid, choice_valid, converted_valid}
use Rattle.lift_forms.proofs.laws.forms_are_valid.Goals as goal

pub returns : goal.returns
returns c = record {
  values = value_valid;
  tests = test_valid;
  unary = unary_valid;
  binary = binary_form_valid;
  both = both_valid;
  either = either_valid;
  choices = choice_valid;
  conversions = converted_valid;
}
