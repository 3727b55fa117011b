use Rattle.whole_means.proofs.Together.{outers_mean}
use Rattle.whole_means.proofs.laws.outers_mean.Goals as goal

pub returns : goal.returns
returns c = outers_mean
