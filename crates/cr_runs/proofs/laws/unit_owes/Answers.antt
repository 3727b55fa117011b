use Rattle.cr_runs.specs.Laws.{Passes}
use Rattle.cr_runs.proofs.Rules.{tick_target}
use Rattle.cr_runs.proofs.laws.unit_owes.Goals as goal

pub returns : goal.returns
returns g c = λ events_of events_in good n m t source target waits owes. tick_target events_of events_in (Passes good) n m t source target waits owes
