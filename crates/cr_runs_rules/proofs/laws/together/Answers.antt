use Rattle.cr_runs.specs.Laws.{Passes}
use Rattle.cr_runs_rules.proofs.Rules.{together}
use Rattle.cr_runs_rules.proofs.laws.together.Goals as goal

pub returns : goal.returns
returns g c = λ events_of events_in good n m s t source next target rest steps units same owes. together events_of events_in (Passes good) n m s t source next target rest steps units same owes
