use Rattle.cr_runs.specs.Laws.{Passes}
use Rattle.cr_runs.proofs.Rules.{pieces}
use Rattle.cr_runs.proofs.laws.pieces_owe.Goals as goal

pub returns : goal.returns
returns g c = λ events_of events_in good after source target go on n m first silent second. pieces events_of events_in (Passes good) (Passes after) source target go on n m first silent second
