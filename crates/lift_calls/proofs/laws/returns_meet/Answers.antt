use Rattle.lift_calls.proofs.Returns.{returned_meets}
use Rattle.lift_calls.proofs.laws.returns_meet.Goals as goal

pub returns : goal.returns
returns c = returned_meets
