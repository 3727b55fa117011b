use Rattle.std.proofs.Common.{◌≡◌, ◌≤◌, ◌-◌, suc, map, length}
use Rattle.cx_cursor.specs.Lists.{many, taking}
use Rattle.cx_expr.specs.Knot.{readers}
use Rattle.cx_expr.specs.Specifiers.{no_brace, with_member}
use Rattle.cx_tree.specs.Depth.{member_decls_depth}
use Rattle.cx_tree.specs.Views.{member_decl_view, member_decls}
use Rattle.cx_declare.proofs.members.members_behind.Given as goal

abbrev pub invariant-loop-turn : goal.invariant-loop-turn
invariant-loop-turn g l =
    (l.list.lines ≡ l.initial.list.lines) ×
    (l.list.depth ≤ l.depth) × (l.list.depth ≡ member_decls_depth (member_decls (map member_decl_view l.list.list))) ×
    (many no_brace (taking (readers l.depth).member with_member) (suc (length l.initial.cursor.tokens) - l._turn) (map member_decl_view l.list.list) l.cursor
    ≡ many no_brace (taking (readers l.depth).member with_member) (suc (length l.initial.cursor.tokens)) (map member_decl_view l.initial.list.list) l.initial.cursor)
