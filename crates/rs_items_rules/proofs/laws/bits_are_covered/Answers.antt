use Rattle.rs_items_rules.proofs.Rows.{bits_are_covered}
use Rattle.rs_items_rules.proofs.laws.bits_are_covered.Goals as goal

pub returns : goal.returns
returns c = λ known records layouts one row kept is short. bits_are_covered known records layouts kept one row is short
