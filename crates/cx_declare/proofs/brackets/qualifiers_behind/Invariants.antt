use Rattle.std.proofs.Common.{◌≡◌, ◌-◌, suc, length}
use Rattle.cx_cursor.specs.Lists.{many, taking}
use Rattle.cx_cursor.specs.Sights.{keyword}
use Rattle.cx_expr.specs.Declarators.{qualifiers_read, stops_qualifiers, with_qualifier}
use Rattle.cx_declare.proofs.brackets.qualifiers_behind.Given as goal

abbrev pub invariant-loop-turn : goal.invariant-loop-turn
invariant-loop-turn l =
    many stops_qualifiers (taking keyword with_qualifier) (suc (length l.initial.cursor.tokens) - l._turn) (qualifiers_read l.all.list l.all.lines) l.cursor
    ≡ many stops_qualifiers (taking keyword with_qualifier) (suc (length l.initial.cursor.tokens)) (qualifiers_read l.initial.all.list l.initial.all.lines) l.initial.cursor
