use Rattle.cx_typed_work.proofs.Stepping.{steps_keep_typed}
use Rattle.cx_typed_work.proofs.steps_keep_typed.Goals as goal

pub returns : goal.returns
returns c = steps_keep_typed
