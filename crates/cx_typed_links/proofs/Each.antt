-- What is said of all that each unit gives is said of all that the units give.
use Rattle.std.proofs.Common.{◌≡◌, ℕ, suc, ◌+◌, List, [], ◌∷◌, All, Some, slice_get, refl, sym, arith, subst}
use Rattle.std.proofs.lemmas.List.Elements.{All-nil, All-append}
use Rattle.cx_core.specs.Trees.{CUnit}
use Rattle.cx_links.specs.Program.{from_each}
use Rattle.cx_typed_links.proofs.Joined.{none_on}

nothing_on : (n : ℕ) → n + 0 ≡ n
nothing_on n = omega arith

one_on : (n at : ℕ) → n + suc at ≡ suc n + at
one_on n at = omega arith

module _ {A : Type 0} (P : A → Type 0) (gives : CUnit → ℕ → List A) (units : List CUnit)
    (all : (unit : ℕ) (one : CUnit) → slice_get units unit ≡ Some one → All P (gives one unit)) where
  given_from : (start : ℕ) (others : List CUnit) → ((at : ℕ) (one : CUnit) → slice_get others at ≡ Some one → slice_get units (start + at) ≡ Some one)
      → All P (from_each gives start others)
  given_from start [] each = All-nil P
  given_from start (first ∷ others) each =
      All-append P (gives first start) (from_each gives (suc start) others)
      (all start first (subst (λ n. slice_get units n ≡ Some first) (nothing_on start) (each 0 first refl)))
      (given_from (suc start) others (λ at one is. subst (λ n. slice_get units n ≡ Some one) (one_on start at) (each (suc at) one is)))

  pub all_given : All P (from_each gives 0 units)
  all_given = given_from 0 units (λ at one is. subst (λ n. slice_get units n ≡ Some one) (sym (none_on at)) is)
