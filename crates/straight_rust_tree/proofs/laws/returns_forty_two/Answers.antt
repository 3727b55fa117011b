use Rattle.straight_rust_tree.proofs.Examples.{returned}
use Rattle.straight_rust_tree.proofs.laws.returns_forty_two.Goals as goal

pub returns : goal.returns
returns c = returned
