use Rattle.std_host.proofs.OutputLemmas.{one_more_writes}
use Rattle.std_host.proofs.laws.one_more_writes.Goals as goal

pub returns : goal.returns
returns _ = one_more_writes
