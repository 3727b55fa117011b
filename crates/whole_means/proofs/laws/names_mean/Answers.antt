use Rattle.whole_means.proofs.Whole.{names_mean}
use Rattle.whole_means.proofs.laws.names_mean.Goals as goal

pub returns : goal.returns
returns c = names_mean
