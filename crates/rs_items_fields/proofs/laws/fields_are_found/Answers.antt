use Rattle.rs_items_fields.proofs.Found.{found}
use Rattle.rs_items_fields.proofs.laws.fields_are_found.Goals as goal

pub returns : goal.returns
returns c = found
