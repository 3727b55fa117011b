use Rattle.cx_ready.proofs.Lasts.{operands_longer}
use Rattle.cx_ready.proofs.operands.+operands.Goals as goal

pub returns : goal.returns
returns t c = operands_longer _ _ _ _ _ _ c.in-Some.ensures.items c.operand_of-last.ensures c.operands_of.ensures c.with_last.ensures
