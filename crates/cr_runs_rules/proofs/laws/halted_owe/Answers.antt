use Rattle.cr_runs.specs.Laws.{Passes}
use Rattle.cr_runs_rules.proofs.Rules.{halted_owe}
use Rattle.cr_runs_rules.proofs.laws.halted_owe.Goals as goal

pub returns : goal.returns
returns g c = λ events_of events_in good n m status s t same. halted_owe events_of events_in (Passes good) n m status s t same
