use Rattle.rs_print.proofs.Printable.{printable}
use Rattle.rs_print.proofs.laws.valid_crates_are_printable.Goals as goal

pub returns : goal.returns
returns c = printable
