use Rattle.whole_means.proofs.Together.{bares_mean}
use Rattle.whole_means.proofs.laws.bares_mean.Goals as goal

pub returns : goal.returns
returns c = bares_mean
