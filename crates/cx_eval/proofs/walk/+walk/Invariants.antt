use Rattle.std.proofs.Common.{drop}
use Rattle.cx_work.specs.Weights.{weight, weights}
use Rattle.cx_eval.proofs.walk.+walk.Given as goal

abbrev pub decreases-walk : goal.decreases-walk
decreases-walk g l = weight l.work.now

abbrev pub decreases-walk_from : goal.decreases-walk_from
decreases-walk_from g l = weights (drop l.index l.operands.now)
