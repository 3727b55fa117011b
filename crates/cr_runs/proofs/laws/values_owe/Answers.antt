use Rattle.cr_runs.specs.Laws.{Passes}
use Rattle.cr_runs.proofs.Rules.{values}
use Rattle.cr_runs.proofs.laws.values_owe.Goals as goal

pub returns : goal.returns
returns g c = λ events_of events_in good n m a s b t passes. values events_of events_in (Passes good) n m a s b t passes
