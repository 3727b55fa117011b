use Rattle.cx_ready.proofs.Lasts.{operand_found}
use Rattle.cx_ready.proofs.operands.last_operand.Goals as goal

pub returns-in-Some : goal.returns-in-Some
returns-in-Some c = operand_found _ _ _ _ c.in-Some.ensures.items c.operand_of.ensures
