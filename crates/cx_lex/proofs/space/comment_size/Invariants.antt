use Rattle.std.proofs.Common.{◌≡◌, drop}
use Rattle.cx_lex.specs.Mirror.{comment_end}
use Rattle.cx_lex.proofs.space.comment_size.Given as goal

abbrev pub invariant-loop-at : goal.invariant-loop-at
invariant-loop-at l = comment_end l.at (drop l.at l.bytes) ≡ comment_end 2 (drop 2 l.bytes)
