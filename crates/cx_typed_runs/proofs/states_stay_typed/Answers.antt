use Rattle.cx_typed_runs.proofs.StatesTyped.{states_stay_typed}
use Rattle.cx_typed_runs.proofs.states_stay_typed.Goals as goal

pub returns : goal.returns
returns c = states_stay_typed
