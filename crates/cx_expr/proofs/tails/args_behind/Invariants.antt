use Rattle.std.proofs.Common.{◌≡◌, ◌≤◌, ◌-◌, suc, map, length}
use Rattle.cx_cursor.specs.Lists.{many, list_read, no_comma, next_item}
use Rattle.cx_expr.specs.Knot.{readers}
use Rattle.cx_tree.specs.Depth.{exprs_depth}
use Rattle.cx_tree.specs.Views.{expr_view, exprs}
use Rattle.cx_expr.proofs.tails.args_behind.Given as goal

abbrev pub invariant-loop-turn : goal.invariant-loop-turn
invariant-loop-turn g l =
    (l.args.depth ≤ l.depth) × (l.args.depth ≡ exprs_depth (exprs (map expr_view l.args.list))) ×
    (many no_comma (next_item ((readers l.depth).expr 2)) (suc (length l.initial.cursor.tokens) - l._turn) (list_read (map expr_view l.args.list) l.args.lines) l.cursor
    ≡ many no_comma (next_item ((readers l.depth).expr 2)) (suc (length l.initial.cursor.tokens)) (list_read (map expr_view l.initial.args.list) l.initial.args.lines) l.initial.cursor)
