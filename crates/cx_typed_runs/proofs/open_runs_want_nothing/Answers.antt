use Rattle.cx_typed_runs.proofs.OpenRuns.{open_runs_want_nothing}
use Rattle.cx_typed_runs.proofs.open_runs_want_nothing.Goals as goal

pub returns : goal.returns
returns c = open_runs_want_nothing
