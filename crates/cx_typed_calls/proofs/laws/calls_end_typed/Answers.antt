use Rattle.cx_typed_calls.proofs.Calls.{calls_end_typed}
use Rattle.cx_typed_calls.proofs.laws.calls_end_typed.Goals as goal

pub returns : goal.returns
returns c = calls_end_typed
