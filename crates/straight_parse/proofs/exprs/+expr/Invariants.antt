use Rattle.std.proofs.Common.{◌≡◌, ◌≤◌, ◌+◌, ◌-◌, ◌*◌, suc, map, length}
use Rattle.straight_parse.specs.Exprs.{expr, climb, measured}
use Rattle.straight_parse.specs.Lists.{list_read, many, stops_commas, next_item}
use Rattle.straight_tree.specs.Views.{expr_view}
use Rattle.straight_parse.proofs.exprs.+expr.Given as goal

abbrev pub decreases-expr : goal.decreases-expr
decreases-expr l = 7 * l.depth

abbrev pub decreases-start : goal.decreases-start
decreases-start l = 7 * l.depth + 6

abbrev pub decreases-start_mark : goal.decreases-start_mark
decreases-start_mark l = 7 * l.depth + 5

abbrev pub decreases-paren : goal.decreases-paren
decreases-paren l = 7 * l.depth + 3

abbrev pub decreases-unary : goal.decreases-unary
decreases-unary l = 7 * l.depth + 3

abbrev pub decreases-climb : goal.decreases-climb
decreases-climb l = 7 * l.depth + 6

abbrev pub decreases-operation : goal.decreases-operation
decreases-operation l = 7 * l.depth + 5

abbrev pub decreases-assign : goal.decreases-assign
decreases-assign l = 7 * l.depth + 4

abbrev pub decreases-binary : goal.decreases-binary
decreases-binary l = 7 * l.depth + 4

abbrev pub decreases-call : goal.decreases-call
decreases-call l = 7 * l.depth + 4

abbrev pub decreases-args : goal.decreases-args
decreases-args l = 7 * l.depth + 3

abbrev pub decreases-next_arg : goal.decreases-next_arg
decreases-next_arg l = 7 * l.depth + 1

abbrev pub decreases-args_behind : goal.decreases-args_behind
decreases-args_behind l = 7 * l.depth + 2

abbrev pub invariant-args_behind-loop-turn : goal.invariant-args_behind-loop-turn
invariant-args_behind-loop-turn l =
    (l.args.depth ≤ l.depth)
    × (many stops_commas (next_item (expr l.depth 2)) (suc (length l.initial.cursor) - l._turn) (list_read (map expr_view l.args.list) l.args.depth l.args.lines) l.cursor
    ≡ many stops_commas (next_item (expr l.depth 2)) (suc (length l.initial.cursor)) (list_read (map expr_view l.initial.args.list) l.initial.args.depth l.initial.args.lines) l.initial.cursor)

abbrev pub invariant-climb-loop-turn : goal.invariant-climb-loop-turn
invariant-climb-loop-turn l =
    (l.left.depth ≤ suc l.depth)
    × (climb (expr l.depth) l.depth l.least (suc l.depth - l._turn) (measured (expr_view l.left.tree) l.left.depth) l.cursor
    ≡ climb (expr l.depth) l.depth l.least (suc l.depth) (measured (expr_view l.initial.left.tree) l.initial.left.depth) l.initial.cursor)
