use Rattle.std.proofs.Common.{◌≡◌, ◌-◌, suc, map, length}
use Rattle.straight_parse.specs.Declarations.{init_declarator}
use Rattle.straight_parse.specs.Lists.{list_read, many, stops_commas, next_item}
use Rattle.straight_tree.specs.Views.{init_declarator_view}
use Rattle.straight_parse.proofs.declarations.declarators_behind.Given as goal

abbrev pub invariant-loop-turn : goal.invariant-loop-turn
invariant-loop-turn l =
    many stops_commas (next_item (init_declarator l.depth)) (suc (length l.initial.cursor) - l._turn) (list_read (map init_declarator_view l.list.list) l.list.depth l.list.lines) l.cursor
    ≡ many stops_commas (next_item (init_declarator l.depth)) (suc (length l.initial.cursor)) (list_read (map init_declarator_view l.initial.list.list) l.initial.list.depth l.initial.list.lines) l.initial.cursor
