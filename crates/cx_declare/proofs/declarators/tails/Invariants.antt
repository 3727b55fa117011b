use Rattle.std.proofs.Common.{◌≡◌, ◌≤◌, ◌-◌, suc, map, length}
use Rattle.cx_cursor.specs.Lists.{many}
use Rattle.cx_cursor.specs.Scopes.{bound}
use Rattle.cx_expr.specs.Below.{declarator_read}
use Rattle.cx_expr.specs.Declarators.{no_tail, tail}
use Rattle.cx_expr.specs.Knot.{readers}
use Rattle.cx_tree.specs.Depth.{declarator_depth}
use Rattle.cx_tree.specs.Views.{declarator_view}
use Rattle.cx_declare.proofs.declarators.tails.Given as goal

abbrev pub invariant-loop-turn : goal.invariant-loop-turn
invariant-loop-turn g l =
    (l.of.depth ≤ suc l.depth) × (l.of.depth ≡ declarator_depth (declarator_view l.of.tree)) ×
    (many no_tail (tail (readers l.depth) l.depth) (suc (length l.initial.cursor.tokens) - l._turn) (declarator_read (declarator_view l.of.tree) (map bound l.of.own)) l.cursor
    ≡ many no_tail (tail (readers l.depth) l.depth) (suc (length l.initial.cursor.tokens)) (declarator_read (declarator_view l.initial.of.tree) (map bound l.initial.of.own)) l.initial.cursor)
