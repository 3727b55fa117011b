use Rattle.std.proofs.Common.{◌≡◌, ◌≤◌, ◌-◌, suc, map, length}
use Rattle.cx_cursor.specs.Lists.{many, taking}
use Rattle.cx_expr.specs.Knot.{readers}
use Rattle.cx_expr.specs.Specifiers.{stops_specs, specs_read, with_spec}
use Rattle.cx_tree.specs.Depth.{specs_depth}
use Rattle.cx_tree.specs.Views.{spec_view, specs}
use Rattle.cx_declare.proofs.specifiers.specs_from.Given as goal

abbrev pub invariant-loop-turn : goal.invariant-loop-turn
invariant-loop-turn g l =
    (l.specs.depth ≤ l.depth) × (l.specs.depth ≡ specs_depth (specs (map spec_view l.specs.list))) ×
    (many (stops_specs l.all) (taking (readers l.depth).spec with_spec) (suc (length l.initial.cursor.tokens) - l._turn) (specs_read (map spec_view l.specs.list) l.specs.typed) l.cursor
    ≡ many (stops_specs l.all) (taking (readers l.depth).spec with_spec) (suc (length l.initial.cursor.tokens)) (specs_read (map spec_view l.initial.specs.list) l.initial.specs.typed) l.initial.cursor)
