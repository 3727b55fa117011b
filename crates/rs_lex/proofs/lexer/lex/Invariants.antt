use Rattle.std.proofs.Common.{length}
use Rattle.rs_lex.specs.Lexed.{ReadTo}
use Rattle.rs_lex.proofs.lexer.lex.Given as goal

abbrev pub invariant-loop-rest : goal.invariant-loop-rest
invariant-loop-rest l = ReadTo l.text l.tokens l.angles.open l.angles.last l.rest

abbrev pub decreases-loop-rest : goal.decreases-loop-rest
decreases-loop-rest l = length l.rest
