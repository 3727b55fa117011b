use Rattle.std.proofs.Common.{◌≡◌, ◌+◌, ◌*◌, length, fold}
use Rattle.cx_lex.specs.Bytes.{digit_value, number_of}
use Rattle.cx_lex.proofs.numbers.value_of.Given as goal

abbrev pub invariant-loop-digits : goal.invariant-loop-digits
invariant-loop-digits l =
    fold (λ number digit. number * l.base + digit_value digit) l.value l.digits ≡ number_of l.base l.initial.digits

abbrev pub decreases-loop-digits : goal.decreases-loop-digits
decreases-loop-digits l = length l.digits
