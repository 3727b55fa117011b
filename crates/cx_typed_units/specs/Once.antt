-- Numbers of objects that are taken from one place of a unit to a later one, each once (ISO C99, 6.2.4).
use Rattle.std.specs.Prelude.{◌≡◌, ℕ, suc, ◌==◌, ◌<◌, ◌≤◌, if◌then◌else◌, List, [], ◌∷◌}

-- how often a number stands in a list
abbrev pub times : ℕ → List ℕ → ℕ
times number [] = 0
times number (one ∷ others) = if number == one then suc (times number others) else times number others

-- all are at least the first, and less than the second, and no two are the same
pub record AreOnce (from to : ℕ) (numbers : List ℕ) : Type 0 where
  pub grows : from ≤ to
  pub once : (number : ℕ) → times number numbers ≤ 1
  pub low : (number : ℕ) → number < from → times number numbers ≡ 0
  pub high : (number : ℕ) → to ≤ number → times number numbers ≡ 0
