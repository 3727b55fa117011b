use Rattle.std.proofs.Common.{rules}
use Rattle.rs_tree.specs.Views.{expr_view}
use Rattle.emit_stmts.proofs.Sides.{if_both, if_other, not_none}
use Rattle.emit_stmts.proofs.ifs.if_of.Goals as goal

pub returns : goal.returns
returns c =
    rw (if_both (expr_view c.args.test.now) c.args.if_true c.args.if_false (not_none c.args.if_true c.is_empty-2.result c.if-is_empty-2.false c.is_empty-2.ensures.1)
    (not_none c.args.if_false c.is_empty.result c.if-is_empty.false c.is_empty.ensures.1)) c.if_else.ensures

pub returns-then-is_empty-2 : goal.returns-then-is_empty-2
returns-then-is_empty-2 c =
    rw (if_other (expr_view c.args.test.now) c.args.if_true c.args.if_false (search rules) (not_none c.args.if_false c.is_empty.result c.if-is_empty.false c.is_empty.ensures.1)) (search rules)
