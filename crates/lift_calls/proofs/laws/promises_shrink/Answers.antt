use Rattle.lift_calls.proofs.Owed.{calls_shrink, promise_shrinks}
use Rattle.lift_calls.proofs.laws.promises_shrink.Goals as goal

pub returns : goal.returns
returns c = record { calls = calls_shrink; promise = promise_shrinks }
