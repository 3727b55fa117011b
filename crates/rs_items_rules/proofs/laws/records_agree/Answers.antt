use Rattle.rs_items_rules.proofs.Rows.{row_laid}
use Rattle.rs_items_rules.proofs.laws.records_agree.Goals as goal

pub returns : goal.returns
returns c = λ known records layouts one row kept is. row_laid known records layouts kept one row is
