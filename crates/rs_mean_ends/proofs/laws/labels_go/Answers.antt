use Rattle.rs_mean_ends.proofs.Labels.{labels_go}
use Rattle.rs_mean_ends.proofs.laws.labels_go.Goals as goal

pub returns : goal.returns
returns c = labels_go
