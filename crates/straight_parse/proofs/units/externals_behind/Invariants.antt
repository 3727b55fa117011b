use Rattle.std.proofs.Common.{◌≡◌, ◌-◌, suc, map, length}
use Rattle.straight_parse.specs.Lists.{many, taking}
use Rattle.straight_parse.specs.Units.{external, with_external, at_end}
use Rattle.straight_tree.specs.Views.{external_view}
use Rattle.straight_parse.proofs.units.externals_behind.Given as goal

abbrev pub invariant-loop-turn : goal.invariant-loop-turn
invariant-loop-turn l =
    many at_end (taking (external l.depth) with_external) (suc (length l.initial.cursor) - l._turn) (map external_view l.parts) l.cursor
    ≡ many at_end (taking (external l.depth) with_external) (suc (length l.initial.cursor)) (map external_view l.initial.parts) l.initial.cursor
