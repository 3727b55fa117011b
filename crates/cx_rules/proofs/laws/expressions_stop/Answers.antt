use Rattle.cx_rules.proofs.TreesAgree.{on_expr_walk}
use Rattle.cx_rules.proofs.laws.expressions_stop.Goals as goal

pub returns : goal.returns
returns c = on_expr_walk
