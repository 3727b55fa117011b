-- Numbers that are over a bound.
use Rattle.std.proofs.Common.{ℕ, ◌+◌, ◌-◌, ◌*◌, ◌≤◌, List, [], ◌∷◌, length, fold, get_or, arith}

number_grows : (n : ℕ) (digits : List ℕ) → n ≤ fold (λ number digit. number * 10 + (digit - 48)) n digits
number_grows n [] = omega arith
number_grows n (d ∷ ds) = let more = number_grows (n * 10 + (d - 48)) ds in omega (arith, more)

pub number_over : (n limit : ℕ) (digits : List ℕ) → 1 ≤ length digits → limit ≤ n * 10 + (get_or digits 0 0 - 48)
    → limit ≤ fold (λ number digit. number * 10 + (digit - 48)) n digits
number_over n limit [] some over = absurd (omega (arith, some))
number_over n limit (d ∷ ds) some over = let more = number_grows (n * 10 + (d - 48)) ds in omega (arith, over, more)
