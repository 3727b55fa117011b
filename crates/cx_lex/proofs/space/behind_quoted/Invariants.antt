use Rattle.std.proofs.Common.{◌≡◌, false, length}
use Rattle.cx_lex.specs.Space.{behind_quoted}
use Rattle.cx_lex.proofs.space.behind_quoted.Given as goal

abbrev pub invariant-loop-bytes : goal.invariant-loop-bytes
invariant-loop-bytes l = behind_quoted l.taken l.bytes ≡ behind_quoted false l.initial.bytes

abbrev pub decreases-loop-bytes : goal.decreases-loop-bytes
decreases-loop-bytes l = length l.bytes
