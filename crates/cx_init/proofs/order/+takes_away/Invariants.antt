use Rattle.std.proofs.Common.{length}
use Rattle.cx_init.proofs.order.+takes_away.Given as goal

abbrev pub decreases-takes_away : goal.decreases-takes_away
decreases-takes_away l = length l.later.now
