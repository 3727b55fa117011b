use Rattle.std.proofs.Common.{◌≡◌, ◌-◌, suc, length}
use Rattle.cx_cursor.specs.Lists.{many, list_read, no_comma, taking}
use Rattle.cx_expr.specs.Declarators.{comma_name, with_comma_name}
use Rattle.cx_declare.proofs.functions.names_behind.Given as goal

abbrev pub invariant-loop-turn : goal.invariant-loop-turn
invariant-loop-turn l =
    many no_comma (taking comma_name with_comma_name) (suc (length l.initial.cursor.tokens) - l._turn) (list_read l.all.names l.all.lines) l.cursor
    ≡ many no_comma (taking comma_name with_comma_name) (suc (length l.initial.cursor.tokens)) (list_read l.initial.all.names l.initial.all.lines) l.initial.cursor
