use Rattle.whole_valid.proofs.Crate.{crates_are_valid}
use Rattle.whole_valid.proofs.laws.crates_are_valid.Goals as goal

pub returns : goal.returns
returns c = crates_are_valid
