use Rattle.whole_means.proofs.Together.{all_agree}
use Rattle.whole_means.proofs.laws.programs_agree.Goals as goal

pub returns : goal.returns
returns c = all_agree
