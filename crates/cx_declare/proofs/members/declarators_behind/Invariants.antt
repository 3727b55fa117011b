use Rattle.std.proofs.Common.{◌≡◌, ◌≤◌, ◌-◌, suc, map, length}
use Rattle.cx_cursor.specs.Lists.{many, list_read, no_comma, next_item}
use Rattle.cx_expr.specs.Knot.{readers}
use Rattle.cx_tree.specs.Depth.{member_declarators_depth}
use Rattle.cx_tree.specs.Views.{member_declarator_view, member_declarators}
use Rattle.cx_declare.proofs.members.declarators_behind.Given as goal

abbrev pub invariant-loop-turn : goal.invariant-loop-turn
invariant-loop-turn g l =
    (l.list.depth ≤ l.depth) × (l.list.depth ≡ member_declarators_depth (member_declarators (map member_declarator_view l.list.list))) ×
    (many no_comma (next_item (readers l.depth).member_declarator) (suc (length l.initial.cursor.tokens) - l._turn) (list_read (map member_declarator_view l.list.list) l.list.lines) l.cursor
    ≡ many no_comma (next_item (readers l.depth).member_declarator) (suc (length l.initial.cursor.tokens)) (list_read (map member_declarator_view l.initial.list.list) l.initial.list.lines) l.initial.cursor)
