use Rattle.rs_mean_ends.proofs.Ending.{ends_by_form}
use Rattle.rs_mean_ends.proofs.laws.ends_by_form.Goals as goal

pub returns : goal.returns
returns c = ends_by_form
