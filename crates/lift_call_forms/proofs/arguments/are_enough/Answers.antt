use Rattle.std.proofs.Common.{sym}
use Rattle.lift_call_forms.proofs.Passing.{enough}
use Rattle.lift_call_forms.proofs.arguments.are_enough.Goals as goal

pub returns : goal.returns
returns c = sym (enough c.args.params.now c.args.args.now)
