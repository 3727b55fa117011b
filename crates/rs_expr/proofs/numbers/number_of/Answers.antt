use Rattle.std.proofs.Common.{ℕ, ◌^◌, ◌≤◌, subst, arith}
use Rattle.rs_expr.proofs.NumberLemmas.{number_over}
use Rattle.rs_expr.proofs.numbers.number_of.Goals as goal

pub returns-in_default-checked_mul : goal.returns-in_default-checked_mul
returns-in_default-checked_mul c =
    subst (λ (n : ℕ). 2 ^ 128 ≤ n) c.loop-digits.invariant
    (number_over c.loop-digits.value (2 ^ 128) c.loop-digits.digits.now c.in-len1-up.len_at_least (omega (arith, c.in_default-checked_mul.ensures)))

pub returns-in_default-checked_add : goal.returns-in_default-checked_add
returns-in_default-checked_add c =
    subst (λ (n : ℕ). 2 ^ 128 ≤ n) c.loop-digits.invariant
    (number_over c.loop-digits.value (2 ^ 128) c.loop-digits.digits.now c.in-len1-up.len_at_least
    (omega (arith, c.in_default-checked_add.ensures, c.in-Some.ensures)))
