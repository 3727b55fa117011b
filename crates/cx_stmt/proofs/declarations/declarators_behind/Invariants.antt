use Rattle.std.proofs.Common.{◌≡◌, ◌-◌, suc, map, length}
use Rattle.cx_cursor.specs.Lists.{many, list_read, no_comma, next_item}
use Rattle.cx_stmt.specs.Declarations.{init_declarator}
use Rattle.cx_tree.specs.Views.{init_declarator_view, spec_view, specs}
use Rattle.cx_stmt.proofs.declarations.declarators_behind.Given as goal

abbrev pub invariant-loop-turn : goal.invariant-loop-turn
invariant-loop-turn l =
    many no_comma (next_item (init_declarator l.depth (specs (map spec_view l.specs)))) (suc (length l.initial.cursor.tokens) - l._turn)
    (list_read (map init_declarator_view l.list.list) l.list.lines) l.cursor
    ≡ many no_comma (next_item (init_declarator l.depth (specs (map spec_view l.specs)))) (suc (length l.initial.cursor.tokens))
    (list_read (map init_declarator_view l.initial.list.list) l.initial.list.lines) l.initial.cursor
