use Rattle.cr_runs.specs.Laws.{Passes}
use Rattle.cr_runs_rules.proofs.Rules.{alone}
use Rattle.cr_runs_rules.proofs.laws.alone.Goals as goal

pub returns : goal.returns
returns g c = λ events_of events_in good n m s source next target steps rests owes. alone events_of events_in (Passes good) n m s source next target steps rests owes
