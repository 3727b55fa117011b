use Rattle.std.proofs.Common.{◌-◌, length}
use Rattle.cx_lex.proofs.SpellLemmas.{ReadTo}
use Rattle.cx_lex.proofs.lexer.lex.Given as goal

abbrev pub invariant-loop-at : goal.invariant-loop-at
invariant-loop-at l = ReadTo l.bytes l.tokens l.at l.place.line l.place.first

abbrev pub decreases-loop-at : goal.decreases-loop-at
decreases-loop-at l = length l.bytes - l.at
