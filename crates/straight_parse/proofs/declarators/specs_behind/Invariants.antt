use Rattle.std.proofs.Common.{◌≡◌, ◌-◌, suc, map, length}
use Rattle.straight_parse.specs.Declarators.{spec, with_spec, stops_specs, specs_read}
use Rattle.straight_parse.specs.Lists.{many, taking}
use Rattle.straight_tree.specs.Views.{spec_view}
use Rattle.straight_parse.proofs.declarators.specs_behind.Given as goal

abbrev pub invariant-loop-turn : goal.invariant-loop-turn
invariant-loop-turn l =
    many stops_specs (taking spec with_spec) (suc (length l.initial.cursor) - l._turn) (specs_read (map spec_view l.specs.list) l.specs.lines) l.cursor
    ≡ many stops_specs (taking spec with_spec) (suc (length l.initial.cursor)) (specs_read (map spec_view l.initial.specs.list) l.initial.specs.lines) l.initial.cursor
