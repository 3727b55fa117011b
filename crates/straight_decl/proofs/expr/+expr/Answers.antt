use Rattle.straight_decl.specs.Given.{scope_of}
use Rattle.straight_decl.proofs.Args.{stops_at_many}
use Rattle.straight_decl.proofs.expr.+expr.Goals as goal

pub core_only-returns-in-len2-up : goal.core_only-returns-in-len2-up
core_only-returns-in-len2-up t c = stops_at_many c.args.unit (scope_of c.args.scope.now) c.args.args.now c.not_built-in-len2-up.result c.in-len2-up.len_at_least c.not_built-in-len2-up.ensures
