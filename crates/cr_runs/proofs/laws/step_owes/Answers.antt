use Rattle.cr_runs.specs.Laws.{Passes}
use Rattle.cr_runs.proofs.Rules.{tick_source}
use Rattle.cr_runs.proofs.laws.step_owes.Goals as goal

pub returns : goal.returns
returns g c = λ events_of events_in good n m s source target rests owes. tick_source events_of events_in (Passes good) n m s source target rests owes
