-- The first of any candidates that isn't taken.
use Rattle.std.proofs.Common.{◌≡◌, ℕ, zero, suc, ◌+◌, ◌<◌, ◌≤◌, Bool, true, false, not, List, Option, Some, None, refl, sym, ap, ◌∙◌, arith, inl, inr, subst}
use Rattle.std.proofs.lemmas.Bool.{cases_lt}
use Rattle.rs_items_sets.specs.Names.{unless, free, name_or, first_free, IsGone, AreGone, IsFirstFree}
use Rattle.rs_text.specs.Names.{is_among}

-- a candidate is free, or it is gone
data Looked (taken : List (List ℕ)) : Option (List ℕ) → Type 0 where
  is_gone : (one : Option (List ℕ)) → free taken one ≡ None → IsGone taken one → Looked taken one
  is_there : (name : List ℕ) → free taken (Some name) ≡ Some name → is_among taken name ≡ false → Looked taken (Some name)

looked : (taken : List (List ℕ)) (one : Option (List ℕ)) → Looked taken one
looked taken None = is_gone None refl tt
looked taken (Some name) = by_test (is_among taken name) refl
  where
    by_test : (r : Bool) → is_among taken name ≡ r → Looked taken (Some name)
    by_test true e = is_gone (Some name) (ap (λ r. unless r name) e) e
    by_test false e = is_there name (ap (λ r. unless r name) e) e

-- a free candidate with a number from one on and before another
pub record IsThere (taken : List (List ℕ)) (candidates : ℕ → Option (List ℕ)) (from above : ℕ) : Type 0 where
  pub number : ℕ
  pub reached : from ≤ number
  pub below : number < above
  pub one : List ℕ
  pub is : candidates number ≡ Some one
  pub free : is_among taken one ≡ false

gone_next : (taken : List (List ℕ)) (candidates : ℕ → Option (List ℕ)) (from : ℕ) → AreGone taken candidates from → IsGone taken (candidates from) → AreGone taken candidates (suc from)
gone_next taken candidates from before here k low = elim (cases_lt k from) [
  | inl less ↦ before k less
  | inr more ↦ subst (λ n. IsGone taken (candidates n)) (omega (arith, low, more)) here
]

pub not_gone : (taken : List (List ℕ)) (name : List ℕ) (one : Option (List ℕ)) → one ≡ Some name → is_among taken name ≡ false → IsGone taken one → ⊥
not_gone taken name None is none gone = cc
not_gone taken name (Some other) is none gone =
    let same : other ≡ name = cc in
    let taken_one : is_among taken name ≡ true = subst (λ n. is_among taken n ≡ true) same gone in
    let no : is_among taken name ≡ false = none in
    cc

there_next : (taken : List (List ℕ)) (candidates : ℕ → Option (List ℕ)) (from count : ℕ) → IsGone taken (candidates from) → (at : IsThere taken candidates from (from + suc count))
    → IsThere taken candidates (suc from) (suc from + count)
there_next taken candidates from count gone at = record {
  number = at.number;
  reached = elim (cases_lt from at.number) [
    | inl less ↦ less
    | inr more ↦ (let here : from ≡ at.number = omega (arith, more, at.reached) in
        absurd (not_gone taken at.one (candidates from) (ap candidates here ∙ at.is) at.free gone))
  ];
  below = omega (arith, at.below);
  one = at.one;
  is = at.is;
  free = at.free;
}

-- by what the candidate with a number is
by_look : (taken : List (List ℕ)) (candidates : ℕ → Option (List ℕ)) (rest : List ℕ) (from : ℕ) → AreGone taken candidates from → (one : Option (List ℕ)) → candidates from ≡ one
    → (IsGone taken (candidates from) → IsFirstFree taken candidates rest) → Looked taken one → IsFirstFree taken candidates (name_or (free taken (candidates from)) rest)
by_look taken candidates rest from before one e later (is_gone same none gone) =
    subst (IsFirstFree taken candidates) (sym (ap (λ o. name_or (free taken o) rest) e ∙ ap (λ o. name_or o rest) none)) (later (subst (IsGone taken) (sym e) gone))
by_look taken candidates rest from before one e later (is_there own found none) =
    subst (IsFirstFree taken candidates) (sym (ap (λ o. name_or (free taken o) rest) e ∙ ap (λ o. name_or o rest) found))
    (record { number = from; is = e; free = ap not none; first = before })

pub found_first : (taken : List (List ℕ)) (candidates : ℕ → Option (List ℕ)) (from count : ℕ) → AreGone taken candidates from → IsThere taken candidates from (from + count)
    → IsFirstFree taken candidates (first_free taken candidates from count)
found_first taken candidates from zero before at = absurd (omega (arith, at.reached, at.below))
found_first taken candidates from (suc count) before at = by_look taken candidates (first_free taken candidates (suc from) count) from before (candidates from) refl
    (λ gone. found_first taken candidates (suc from) count (gone_next taken candidates from before gone) (there_next taken candidates from count gone at))
    (looked taken (candidates from))

-- ---- there is no other first one

pub not_not : (a : Bool) → not a ≡ true → a ≡ false
not_not true h = cc
not_not false h = refl

-- a first free candidate isn't behind another one
not_behind : (taken : List (List ℕ)) (candidates : ℕ → Option (List ℕ)) (one other : List ℕ) → (a : IsFirstFree taken candidates one) (b : IsFirstFree taken candidates other) → a.number < b.number → ⊥
not_behind taken candidates one other a b less = not_gone taken one (candidates a.number) a.is (not_not (is_among taken one) a.free) (b.first a.number less)

pub only_first : (taken : List (List ℕ)) (candidates : ℕ → Option (List ℕ)) (one other : List ℕ) → IsFirstFree taken candidates one → IsFirstFree taken candidates other → one ≡ other
only_first taken candidates one other a b = elim (cases_lt a.number b.number) [
  | inl less ↦ absurd (not_behind taken candidates one other a b less)
  | inr more ↦ elim (cases_lt b.number a.number) [
    | inl less ↦ absurd (not_behind taken candidates other one b a less)
    | inr most ↦ let same : a.number ≡ b.number = omega (arith, more, most) in
        let shown : Some one ≡ Some other = sym a.is ∙ ap candidates same ∙ b.is in
        cc
  ]
]

-- ---- its number

-- no first free candidate is behind one that is free
pub low_first : (taken : List (List ℕ)) (candidates : ℕ → Option (List ℕ)) (above : ℕ) (one : List ℕ) → IsThere taken candidates 0 above → (a : IsFirstFree taken candidates one) → a.number < above
low_first taken candidates above one at a = elim (cases_lt at.number a.number) [
  | inl less ↦ absurd (not_gone taken at.one (candidates at.number) at.is at.free (a.first at.number less))
  | inr more ↦ omega (arith, more, at.below)
]
