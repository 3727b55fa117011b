use Rattle.cr_runs.specs.Laws.{Passes}
use Rattle.cr_runs_rules.proofs.Rules.{ticks_by}
use Rattle.cr_runs_rules.proofs.laws.ticks_by.Goals as goal

pub returns : goal.returns
returns g c = λ events_of events_in good n m s t source target same owes. ticks_by events_of events_in (Passes good) n m s t source target same owes
