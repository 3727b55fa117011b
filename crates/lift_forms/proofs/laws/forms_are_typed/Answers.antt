use Rattle.lift_forms.proofs.Typed.{value_typed, test_typed, opposite_typed, unary_typed, binary_typed, both_forms, either_forms, choice_forms, converted_typed}
use Rattle.lift_forms.proofs.laws.forms_are_typed.Goals as goal

pub returns : goal.returns
returns c = record {
  values = value_typed;
  tests = test_typed;
  opposites = opposite_typed;
  unary = unary_typed;
  binary = λ scope op left right ty s t h k r. binary_typed scope op left right ty s t h k r;
  both = both_forms;
  either = either_forms;
  choices = choice_forms;
  conversions = λ scope operand ty s t h c. converted_typed scope operand ty s t h c;
}
