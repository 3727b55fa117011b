use Rattle.std.proofs.Common.{◌≡◌, ◌≤◌, ◌-◌, suc}
use Rattle.cx_expr.specs.Exprs.{climb}
use Rattle.cx_expr.specs.Knot.{readers}
use Rattle.cx_tree.specs.Depth.{expr_depth}
use Rattle.cx_tree.specs.Views.{expr_view}
use Rattle.cx_expr.proofs.climbing.climb.Given as goal

abbrev pub invariant-loop-turn : goal.invariant-loop-turn
invariant-loop-turn g l =
    (l.left.depth ≤ suc l.depth) × (l.left.depth ≡ expr_depth (expr_view l.left.tree)) ×
    (climb (readers l.depth) l.depth l.least (suc l.depth - l._turn) (expr_view l.left.tree) l.cursor
    ≡ climb (readers l.depth) l.depth l.least (suc l.depth) (expr_view l.initial.left.tree) l.initial.cursor)
