use Rattle.std.proofs.Common.{length}
use Rattle.cx_ready.proofs.operands.+operands.Given as goal

abbrev pub decreases-operands_of : goal.decreases-operands_of
decreases-operands_of l = length l.works.now.items
