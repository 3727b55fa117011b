use Rattle.cx_typed_work.proofs.ExternalCalls.{external_calls_give_typed}
use Rattle.cx_typed_work.proofs.external_calls_give_typed.Goals as goal

pub returns : goal.returns
returns c = external_calls_give_typed
