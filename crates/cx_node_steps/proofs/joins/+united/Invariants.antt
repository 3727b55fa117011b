use Rattle.std.proofs.Common.{length}
use Rattle.cx_node_steps.proofs.joins.+united.Given as goal

abbrev pub decreases-united : goal.decreases-united
decreases-united l = length l.operands.now
