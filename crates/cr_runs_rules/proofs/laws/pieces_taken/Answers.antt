use Rattle.cr_runs.specs.Laws.{Passes}
use Rattle.cr_runs_rules.proofs.Rules.{pieces_taken}
use Rattle.cr_runs_rules.proofs.laws.pieces_taken.Goals as goal

pub returns : goal.returns
returns g c = λ events_of events_in good after source target go on n m takes first silent second. pieces_taken events_of events_in (Passes good) (Passes after) source target go on n m takes first silent second
