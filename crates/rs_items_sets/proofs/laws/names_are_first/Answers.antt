use Rattle.rs_items_sets.proofs.FirstFree.{names_first}
use Rattle.rs_items_sets.proofs.laws.names_are_first.Goals as goal

pub returns : goal.returns
returns c = names_first
