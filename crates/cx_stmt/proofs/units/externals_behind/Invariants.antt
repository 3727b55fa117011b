use Rattle.std.proofs.Common.{◌≡◌, ◌-◌, suc, map, length}
use Rattle.cx_cursor.specs.Lists.{many, taking}
use Rattle.cx_stmt.specs.Units.{external, at_end, with_external}
use Rattle.cx_tree.specs.Views.{external_view}
use Rattle.cx_stmt.proofs.units.externals_behind.Given as goal

abbrev pub invariant-loop-turn : goal.invariant-loop-turn
invariant-loop-turn l =
    many at_end (taking (external l.depth) with_external) (suc (length l.initial.cursor.tokens) - l._turn) (map external_view l.parts) l.cursor
    ≡ many at_end (taking (external l.depth) with_external) (suc (length l.initial.cursor.tokens)) (map external_view l.initial.parts) l.initial.cursor
