use Rattle.lift_calls.proofs.Whole.{all_owe}
use Rattle.lift_calls.proofs.laws.all_calls_owe.Goals as goal

pub returns : goal.returns
returns c = all_owe
