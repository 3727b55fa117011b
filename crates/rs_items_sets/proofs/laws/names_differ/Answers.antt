use Rattle.rs_items_sets.proofs.Several.{names_differ}
use Rattle.rs_items_sets.proofs.laws.names_differ.Goals as goal

pub returns : goal.returns
returns c = names_differ
