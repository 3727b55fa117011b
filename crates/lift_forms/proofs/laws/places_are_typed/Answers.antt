use Rattle.lift_forms.proofs.Typed.{object_typed, address_form_typed}
use Rattle.lift_forms.proofs.laws.places_are_typed.Goals as goal

pub returns : goal.returns
returns c = record { objects = object_typed; addresses = address_form_typed }
