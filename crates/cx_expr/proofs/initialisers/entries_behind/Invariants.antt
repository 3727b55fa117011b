use Rattle.std.proofs.Common.{◌≡◌, ◌≤◌, ◌-◌, suc, map, length}
use Rattle.cx_cursor.specs.Lists.{many, list_read, next_item}
use Rattle.cx_expr.specs.Knot.{readers}
use Rattle.cx_expr.specs.Specifiers.{no_further}
use Rattle.cx_tree.specs.Depth.{entries_depth}
use Rattle.cx_tree.specs.Views.{entry_view, entries}
use Rattle.cx_expr.proofs.initialisers.entries_behind.Given as goal

abbrev pub invariant-loop-turn : goal.invariant-loop-turn
invariant-loop-turn g l =
    (l.list.depth ≤ l.depth) × (l.list.depth ≡ entries_depth (entries (map entry_view l.list.list))) ×
    (many no_further (next_item (readers l.depth).entry) (suc (length l.initial.cursor.tokens) - l._turn) (list_read (map entry_view l.list.list) l.list.lines) l.cursor
    ≡ many no_further (next_item (readers l.depth).entry) (suc (length l.initial.cursor.tokens)) (list_read (map entry_view l.initial.list.list) l.initial.list.lines) l.initial.cursor)
