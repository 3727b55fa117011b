use Rattle.cr_runs.specs.Laws.{Passes}
use Rattle.cr_runs_rules.proofs.Rules.{tick_waits}
use Rattle.cr_runs_rules.proofs.laws.tick_target.Goals as goal

pub returns : goal.returns
returns g c = λ events_of events_in good n m t source target waits owes. tick_waits events_of events_in (Passes good) n m t source target waits owes
