use Rattle.cr_runs.specs.Laws.{Passes}
use Rattle.cr_runs.proofs.Rules.{tick_both}
use Rattle.cr_runs.proofs.laws.ticks_owe.Goals as goal

pub returns : goal.returns
returns g c = λ events_of events_in good n m s t source target same owes. tick_both events_of events_in (Passes good) n m s t source target same owes
