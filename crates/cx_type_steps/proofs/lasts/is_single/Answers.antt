use Rattle.std.proofs.Common.{arith}
use Rattle.cx_type_steps.proofs.Single.{single, several}
use Rattle.cx_type_steps.proofs.lasts.is_single.Goals as goal

pub returns-in-len1 : goal.returns-in-len1
returns-in-len1 c = single c.args.params.now c.args.variadic (omega arith) (omega arith)

pub returns-in_default-2 : goal.returns-in_default-2
returns-in_default-2 c = several c.args.params.now c.args.variadic (omega arith)
