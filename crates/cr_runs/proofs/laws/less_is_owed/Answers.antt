use Rattle.cr_runs.specs.Laws.{Passes}
use Rattle.cr_runs.proofs.Rules.{below, weaker}
use Rattle.cr_runs.proofs.laws.less_is_owed.Goals as goal

pub returns : goal.returns
returns g c = λ events_of events_in good other n m fewer less source target implied one two owes. below events_of events_in (Passes other) n m fewer less source target one two (weaker events_of events_in (Passes good) (Passes other) implied n m source target owes)
