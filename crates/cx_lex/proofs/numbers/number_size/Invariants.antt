use Rattle.std.proofs.Common.{◌≡◌, ◌+◌, length}
use Rattle.cx_lex.specs.Mirror.{run_size}
use Rattle.cx_lex.proofs.numbers.number_size.Given as goal

abbrev pub invariant-loop-bytes : goal.invariant-loop-bytes
invariant-loop-bytes l =
    (l.size + run_size l.previous l.bytes ≡ run_size 0 l.initial.bytes) × (l.size + length l.bytes ≡ length l.initial.bytes)

abbrev pub decreases-loop-bytes : goal.decreases-loop-bytes
decreases-loop-bytes l = length l.bytes
