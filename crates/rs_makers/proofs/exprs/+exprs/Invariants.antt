use Rattle.std.proofs.Common.{◌≡◌, ◌++◌, ◌+◌, ◌*◌, max, map, drop}
use Rattle.rs_tree.proofs.expr.RExpr.TheLaws.{the_size}
use Rattle.rs_tree.specs.Views.{expr_view}
use Rattle.rs_makers.proofs.exprs.+exprs.Given as goal

-- three times the depth, so that nodes of several operands, and two operands together, come between a node and its operands
abbrev pub decreases-copy_expr : goal.decreases-copy_expr
decreases-copy_expr l = 3 * goal.size-copy_expr l

abbrev pub decreases-copy_place : goal.decreases-copy_place
decreases-copy_place l = 3 * goal.size-copy_place l

abbrev pub decreases-copy_exprs : goal.decreases-copy_exprs
decreases-copy_exprs l = 3 * goal.size-copy_exprs l + 1

abbrev pub decreases-copy_both : goal.decreases-copy_both
decreases-copy_both l = 3 * max (the_size l.left.now) (the_size l.right.now) + 1

abbrev pub decreases-copy_offset : goal.decreases-copy_offset
decreases-copy_offset l = 3 * max (the_size l.left.now) (the_size l.right.now) + 2

abbrev pub decreases-copy_offset_from : goal.decreases-copy_offset_from
decreases-copy_offset_from l = 3 * max (the_size l.left.now) (the_size l.right.now) + 2

abbrev pub decreases-copy_and : goal.decreases-copy_and
decreases-copy_and l = 3 * max (the_size l.left.now) (the_size l.right.now) + 2

abbrev pub decreases-copy_or : goal.decreases-copy_or
decreases-copy_or l = 3 * max (the_size l.left.now) (the_size l.right.now) + 2

abbrev pub decreases-copy_wrapped : goal.decreases-copy_wrapped
decreases-copy_wrapped l = 3 * max (the_size l.left.now) (the_size l.right.now) + 2

abbrev pub decreases-copy_binary : goal.decreases-copy_binary
decreases-copy_binary l = 3 * max (the_size l.left.now) (the_size l.right.now) + 2

abbrev pub decreases-copy_choice : goal.decreases-copy_choice
decreases-copy_choice l = 3 * max (the_size l.condition.now) (max (the_size l.if_true.now) (the_size l.if_false.now)) + 2

abbrev pub decreases-copy_transmute : goal.decreases-copy_transmute
decreases-copy_transmute l = 3 * the_size l.of.now + 2

abbrev pub invariant-copy_exprs-loop-one : goal.invariant-copy_exprs-loop-one
invariant-copy_exprs-loop-one l = map expr_view l.made ++ map expr_view (drop l.one-index l.args) ≡ map expr_view l.args
