use Rattle.straight_items.proofs.KeptLaws.{kept}
use Rattle.straight_items.proofs.laws.kept_names_are_rust_names.Goals as goal

pub returns : goal.returns
returns c = kept
