use Rattle.std.proofs.Common.{◌+◌, ◌*◌, drop}
use Rattle.cx_work.specs.Weights.{weight, weights}
use Rattle.cx_eval.proofs.pass.+pass_tree.Given as goal

abbrev pub decreases-pass_tree : goal.decreases-pass_tree
decreases-pass_tree g l = 2 * weight l.work.now + 1

abbrev pub decreases-pass_parts : goal.decreases-pass_parts
decreases-pass_parts g l = 2 * weight l.work.now

abbrev pub decreases-pass_from : goal.decreases-pass_from
decreases-pass_from g l = 2 * weights (drop l.index l.operands.now)
