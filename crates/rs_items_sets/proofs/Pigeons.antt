-- Of more names that differ than are taken, one isn't taken.
use Rattle.std.proofs.Common.{◌≡◌, ◌≢◌, ℕ, suc, ◌<◌, ◌≤◌, Bool, true, false, ◌||◌, List, [], ◌∷◌, length, bytes_eq, refl, sym, ap, ◌∙◌, arith, inl, inr}
use Rattle.std.specs.Prelude.{nat_lt, if◌then◌else◌}
use Rattle.std.proofs.lemmas.Bool.{cases_lt}
use Rattle.std.proofs.lemmas.Bool.Decides.{nat_tests}
use Rattle.std.proofs.lemmas.Slice.Eq.{bytes_eq-Decides}
use Rattle.rs_text.specs.Names.{is_among}

-- a name with a number below a bound that isn't taken
pub record IsFound (names : ℕ → List ℕ) (taken : List (List ℕ)) (above : ℕ) : Type 0 where
  pub number : ℕ
  pub below : number < above
  pub free : is_among taken (names number) ≡ false

-- names with different numbers below a bound differ
abbrev pub AreApart : (ℕ → List ℕ) → ℕ → Type 0
AreApart names above = (j k : ℕ) → j < above → k < above → names j ≡ names k → j ≡ k

-- the numbers without one of them
abbrev skipping : ℕ → ℕ → ℕ
skipping at k = if nat_lt k at then k else suc k

skip_low : (at k : ℕ) → k < at → skipping at k ≡ k
skip_low at k low = grind (arith, nat_tests, low)

skip_high : (at k : ℕ) → at ≤ k → skipping at k ≡ suc k
skip_high at k high = grind (arith, nat_tests, high)

-- where a number goes
data Goes (at k : ℕ) : Type 0 where
  stays : k < at → skipping at k ≡ k → Goes at k
  moves : at ≤ k → skipping at k ≡ suc k → Goes at k

goes : (at k : ℕ) → Goes at k
goes at k = elim (cases_lt k at) [ inl low ↦ stays low (skip_low at k low) | inr high ↦ moves high (skip_high at k high) ]

skip_apart : (at j k : ℕ) → skipping at j ≡ skipping at k → j ≡ k
skip_apart at j k same = by_goes (goes at j) (goes at k)
  where
    by_goes : Goes at j → Goes at k → j ≡ k
    by_goes (stays x e) (stays y f) = omega (arith, e, f, same)
    by_goes (stays x e) (moves y f) = omega (arith, x, y, e, f, same)
    by_goes (moves x e) (stays y f) = omega (arith, x, y, e, f, same)
    by_goes (moves x e) (moves y f) = omega (arith, e, f, same)

skip_leaves : (at k : ℕ) → skipping at k ≢ at
skip_leaves at k same = by_goes (goes at k)
  where
    by_goes : Goes at k → ⊥
    by_goes (stays x e) = omega (arith, x, e, same)
    by_goes (moves x e) = omega (arith, x, e, same)

skip_below : (at k above : ℕ) → k < above → skipping at k < suc above
skip_below at k above low = by_goes (goes at k)
  where
    by_goes : Goes at k → skipping at k < suc above
    by_goes (stays x e) = omega (arith, low, e)
    by_goes (moves x e) = omega (arith, low, e)

bytes_apart : (a b : List ℕ) → a ≢ b → bytes_eq a b ≡ false
bytes_apart a b apart = by_case (bytes_eq a b) refl
  where
    by_case : (r : Bool) → bytes_eq a b ≡ r → bytes_eq a b ≡ false
    by_case true e = absurd (apart ((bytes_eq-Decides a b).0 e))
    by_case false e = e

is_that : (a b : List ℕ) → bytes_eq a b ≡ true → a ≡ b
is_that a b e = (bytes_eq-Decides a b).0 e

abbrev without : (ℕ → List ℕ) → ℕ → ℕ → List ℕ
without names at k = names (skipping at k)

without_apart : (names : ℕ → List ℕ) (at above : ℕ) → AreApart names (suc above) → AreApart (without names at) above
without_apart names at above apart j k low small same =
    skip_apart at j k (apart (skipping at j) (skipping at k) (skip_below at j above low) (skip_below at k above small) same)

fewer_apart : (names : ℕ → List ℕ) (above : ℕ) → AreApart names (suc above) → AreApart names above
fewer_apart names above apart j k low small same = apart j k (omega (arith, low)) (omega (arith, small)) same

-- one that the others haven't taken is the first one taken, or free
by_first : (first : List ℕ) (others : List (List ℕ)) (names : ℕ → List ℕ) (above : ℕ) → AreApart names (suc above) → (one : IsFound names others above) → IsFound (without names one.number) others above
    → (r : Bool) → bytes_eq first (names one.number) ≡ r → IsFound names (first ∷ others) (suc above)
by_first first others names above apart one other false e =
    record { number = one.number; below = omega (arith, one.below); free = ap (λ t. t || is_among others (names one.number)) e ∙ one.free }
by_first first others names above apart one other true e =
    let low = skip_below one.number other.number above other.below in
    record {
      number = skipping one.number other.number;
      below = low;
      free = ap (λ t. t || is_among others (names (skipping one.number other.number))) (bytes_apart first (names (skipping one.number other.number))
          (λ same. skip_leaves one.number other.number
          (sym (apart one.number (skipping one.number other.number) (omega (arith, one.below)) low (sym (is_that first (names one.number) e) ∙ same))))) ∙ other.free;
    }

pub pigeon : (taken : List (List ℕ)) (names : ℕ → List ℕ) → AreApart names (suc (length taken)) → IsFound names taken (suc (length taken))
pigeon [] names apart = record { number = 0; below = omega arith; free = refl }
pigeon (first ∷ others) names apart =
    let one = pigeon others names (fewer_apart names (suc (length others)) apart) in
    by_first first others names (suc (length others)) apart one
    (pigeon others (without names one.number) (without_apart names one.number (suc (length others)) apart)) (bytes_eq first (names one.number)) refl
