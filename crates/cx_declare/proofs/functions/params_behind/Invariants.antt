use Rattle.std.proofs.Common.{◌≡◌, ◌≤◌, ◌-◌, suc, map, length}
use Rattle.cx_cursor.specs.Lists.{many, list_read, next_item}
use Rattle.cx_expr.specs.Declarators.{no_param}
use Rattle.cx_expr.specs.Knot.{readers}
use Rattle.cx_tree.specs.Depth.{params_depth}
use Rattle.cx_tree.specs.Views.{param_view, params}
use Rattle.cx_declare.proofs.functions.params_behind.Given as goal

abbrev pub invariant-loop-turn : goal.invariant-loop-turn
invariant-loop-turn g l =
    (l.list.depth ≤ l.depth) × (l.list.depth ≡ params_depth (params (map param_view l.list.list))) ×
    (many no_param (next_item (readers l.depth).param) (suc (length l.initial.cursor.tokens) - l._turn) (list_read (map param_view l.list.list) l.list.lines) l.cursor
    ≡ many no_param (next_item (readers l.depth).param) (suc (length l.initial.cursor.tokens)) (list_read (map param_view l.initial.list.list) l.initial.list.lines) l.initial.cursor)
