use Rattle.cr_runs.specs.Laws.{Passes}
use Rattle.cr_runs.proofs.Rules.{renamed}
use Rattle.cr_runs.proofs.laws.names_owe.Goals as goal

pub returns : goal.returns
returns g c = λ events_of events_in good n m source other target beside same alike owes. renamed events_of events_in (Passes good) n m source other target beside same alike owes
