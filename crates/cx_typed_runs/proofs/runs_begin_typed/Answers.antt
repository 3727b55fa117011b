use Rattle.cx_typed_runs.proofs.FirstStates.{runs_begin_typed}
use Rattle.cx_typed_runs.proofs.runs_begin_typed.Goals as goal

pub returns : goal.returns
returns c = runs_begin_typed
