use Rattle.lift_forms_laws.proofs.Constants.{objects, addresses, address_forms}
use Rattle.lift_forms_laws.proofs.laws.places_stand.Goals as goal

pub returns : goal.returns
returns c = record {
  objects = objects;
  addresses = addresses;
  address_forms = λ images frame world ty target p found of_c h same below. address_forms frame world images ty target p found of_c h same below;
}
