use Rattle.std.proofs.Common.{rules, arith, sym}
use Rattle.cx_cursor.proofs.Scopes.{next_bound}
use Rattle.cx_cursor.proofs.scope.bounds_of.Goals as goal

pub loop-index-preserved : goal.loop-index-preserved
loop-index-preserved c =
    next_bound c.args.declared.now c.loop-index.index _ c.index-declared-index.result c.loop-index.list c.push.new.self c.in_ok-bound_of.field-0 _ (search rules)
    (sym c.index-declared-index.is) (omega arith) c.in_ok-push.ensures.ok c.in_ok-bound_of.ensures c.loop-index.invariant
