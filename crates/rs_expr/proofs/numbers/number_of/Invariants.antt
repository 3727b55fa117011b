use Rattle.std.proofs.Common.{◌≡◌, ◌+◌, ◌-◌, ◌*◌, length, fold}
use Rattle.rs_expr.specs.Numbers.{number_of}
use Rattle.rs_expr.proofs.numbers.number_of.Given as goal

abbrev pub invariant-loop-digits : goal.invariant-loop-digits
invariant-loop-digits l = fold (λ number digit. number * 10 + (digit - 48)) l.value l.digits ≡ number_of l.initial.digits

abbrev pub decreases-loop-digits : goal.decreases-loop-digits
decreases-loop-digits l = length l.digits
