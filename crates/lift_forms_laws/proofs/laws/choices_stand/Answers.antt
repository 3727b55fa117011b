use Rattle.lift_forms_laws.proofs.Conversions.{both_stand, either_stands, choice_stands}
use Rattle.lift_forms_laws.proofs.laws.choices_stand.Goals as goal

pub returns : goal.returns
returns c = record { both = both_stand; either = either_stands; chosen = choice_stands }
