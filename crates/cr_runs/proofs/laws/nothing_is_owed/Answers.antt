use Rattle.cr_runs.specs.Laws.{Passes}
use Rattle.cr_runs.proofs.Rules.{no_meaning}
use Rattle.cr_runs.proofs.laws.nothing_is_owed.Goals as goal

pub returns : goal.returns
returns g c = λ events_of events_in good n m f s target. no_meaning events_of events_in (Passes good) n m f s target
