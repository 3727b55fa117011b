use Rattle.whole_means.proofs.Together.{entries_mean}
use Rattle.whole_means.proofs.laws.entries_mean.Goals as goal

pub returns : goal.returns
returns c = entries_mean
