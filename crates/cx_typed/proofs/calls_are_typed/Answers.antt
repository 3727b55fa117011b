use Rattle.cx_typed.proofs.Called.{calls}
use Rattle.cx_typed.proofs.calls_are_typed.Goals as goal

pub returns : goal.returns
returns c = calls
