use Rattle.rs_mean.proofs.Unfolded.{lists_follow}
use Rattle.rs_mean.proofs.laws.lists_follow.Goals as goal

pub returns : goal.returns
returns c = lists_follow
