use Rattle.std.specs.Prelude.{IsTrue}
use Rattle.cr_runs.specs.Laws.{Passes}
use Rattle.cr_runs.proofs.Rules.{known}
use Rattle.cr_runs.proofs.laws.ends_are_known.Goals as goal

pub returns : goal.returns
returns g c = λ events_of events_in good is_known n m source target ends owes. known events_of events_in (Passes good) (λ a s. IsTrue (is_known a s)) n m source target ends owes
