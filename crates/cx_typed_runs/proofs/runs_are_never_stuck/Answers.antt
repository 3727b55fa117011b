use Rattle.cx_typed_runs.proofs.StatesTyped.{runs_are_never_stuck}
use Rattle.cx_typed_runs.proofs.runs_are_never_stuck.Goals as goal

pub returns : goal.returns
returns c = runs_are_never_stuck
