use Rattle.std.proofs.Common.{◌≡◌, ◌-◌, suc, length}
use Rattle.cx_cursor.specs.Lists.{many, list_read, taking}
use Rattle.cx_cursor.specs.Sights.{text}
use Rattle.cx_expr.specs.Exprs.{no_text, with_text}
use Rattle.cx_expr.proofs.primaries.texts_behind.Given as goal

abbrev pub invariant-loop-turn : goal.invariant-loop-turn
invariant-loop-turn l =
    many no_text (taking text with_text) (suc (length l.initial.cursor.tokens) - l._turn) (list_read l.texts.parts l.texts.lines) l.cursor
    ≡ many no_text (taking text with_text) (suc (length l.initial.cursor.tokens)) (list_read l.initial.texts.parts l.initial.texts.lines) l.initial.cursor
