use Rattle.cr_runs.specs.Laws.{Passes}
use Rattle.cr_runs_rules.proofs.Rules.{unit_alone}
use Rattle.cr_runs_rules.proofs.laws.unit_alone.Goals as goal

pub returns : goal.returns
returns g c = λ events_of events_in good n m t source target rest units waits owes. unit_alone events_of events_in (Passes good) n m t source target rest units waits owes
