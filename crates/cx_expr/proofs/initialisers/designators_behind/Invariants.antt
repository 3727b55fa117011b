use Rattle.std.proofs.Common.{◌≡◌, ◌≤◌, ◌-◌, suc, map, length}
use Rattle.cx_cursor.specs.Lists.{many, taking}
use Rattle.cx_expr.specs.Initialisers.{no_designator, with_designator}
use Rattle.cx_expr.specs.Knot.{readers}
use Rattle.cx_tree.specs.Depth.{designators_depth}
use Rattle.cx_tree.specs.Views.{designator_view, designators}
use Rattle.cx_expr.proofs.initialisers.designators_behind.Given as goal

abbrev pub invariant-loop-turn : goal.invariant-loop-turn
invariant-loop-turn g l =
    (l.list.lines ≡ l.initial.list.lines) ×
    (l.list.depth ≤ l.depth) × (l.list.depth ≡ designators_depth (designators (map designator_view l.list.list))) ×
    (many no_designator (taking (readers l.depth).designator with_designator) (suc (length l.initial.cursor.tokens) - l._turn) (map designator_view l.list.list) l.cursor
    ≡ many no_designator (taking (readers l.depth).designator with_designator) (suc (length l.initial.cursor.tokens)) (map designator_view l.initial.list.list) l.initial.cursor)
