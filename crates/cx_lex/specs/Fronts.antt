-- Fronts of a list of bytes: its first n bytes, with what is behind them.
use Rattle.std.specs.Prelude.{ℕ, zero, suc, Bool, List, [], ◌∷◌, if◌then◌else◌}

-- one more than a length that was found, or else 1 where the first byte alone will do, or 0
abbrev pub or_first : Bool → ℕ → ℕ
or_first alone zero = if alone then 1 else 0
or_first alone (suc n) = suc (suc n)

-- The length of the longest front of the bytes that is not empty and passes a test of the front and of what is behind
-- it, or 0 where none passes.
abbrev pub longest : (List ℕ → List ℕ → Bool) → List ℕ → ℕ
longest passes [] = 0
longest passes (b ∷ rest) = or_first (passes (b ∷ []) rest) (longest (λ front behind. passes (b ∷ front) behind) rest)
