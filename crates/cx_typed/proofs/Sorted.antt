-- What is kept of what is stored stands in the order of its paths, and no two of it are in different members of a union (ISO C99, 6.7.8p19).
use Rattle.std.proofs.Common.{◌≡◌, inl, inr, ⊎_elim, ℕ, ◌==◌, nat_lt, Bool, true, false, not, if◌then◌else◌, List, [], ◌∷◌, Some, refl, arith}
use Rattle.std.proofs.lemmas.Bool.Decides.{nat_tests}
use Rattle.cx_core.specs.Trees.{CTy, CTypes}
use Rattle.cx_rules.specs.Initial.{CStored, takes_away, comes_before, kept, kept_by, put_in_order, in_order}
use Rattle.cx_typed.proofs.Ordered.{AreApart}
use Rattle.cx_typed.proofs.Same.{both}
use Rattle.cx_typed.specs.Initialised.{EachStored}

-- ---- one of two orders

total_by : (first second : ℕ) (p q : List ℕ) (same : Bool) → (first == second) ≡ same → (comes_before p q ≡ false → comes_before q p ≡ true)
    → (if same then comes_before p q else nat_lt first second) ≡ false → (if second == first then comes_before q p else nat_lt second first) ≡ true
total_by first second p q true e rest is = by_test (second == first) (turned e)
  where
    turned : (first == second) ≡ true → (second == first) ≡ true
    turned is = grind (arith, nat_tests)

    by_test : (test : Bool) → test ≡ true → (if test then comes_before q p else nat_lt second first) ≡ true
    by_test true e = rest is
    by_test false e = absurd cc
total_by first second p q false e rest is = by_test (second == first) (turned e)
  where
    turned : (first == second) ≡ false → (second == first) ≡ false
    turned is = grind (arith, nat_tests)

    later : nat_lt first second ≡ false → (first == second) ≡ false → nat_lt second first ≡ true
    later less differ = grind (arith, nat_tests)

    by_test : (test : Bool) → test ≡ false → (if test then comes_before q p else nat_lt second first) ≡ true
    by_test true e = absurd cc
    by_test false f = later is e

pub total : (p q : List ℕ) → comes_before p q ≡ false → comes_before q p ≡ true
total [] q is = absurd cc
total (first ∷ p) [] is = refl
total (first ∷ p) (second ∷ q) is = total_by first second p q (first == second) refl (total p q) is

abbrev before_if : Bool → Bool → Bool → Bool
before_if same rest less = if same then rest else less

chain_by : (a b c : ℕ) (ab bc ac : Bool) (one two three : Bool) → (a == b) ≡ ab → (b == c) ≡ bc → (a == c) ≡ ac → (one ≡ true → two ≡ true → three ≡ true)
    → before_if ab one (nat_lt a b) ≡ true → before_if bc two (nat_lt b c) ≡ true → before_if ac three (nat_lt a c) ≡ true
chain_by a b c true true true one two three e f g rest is also = rest is also
chain_by a b c true true false one two three e f g rest is also = absurd (grind (arith, nat_tests, e, f, g))
chain_by a b c true false true one two three e f g rest is also = absurd (grind (arith, nat_tests, e, f, g))
chain_by a b c true false false one two three e f g rest is also = grind (arith, nat_tests, e, also)
chain_by a b c false true true one two three e f g rest is also = absurd (grind (arith, nat_tests, e, f, g))
chain_by a b c false true false one two three e f g rest is also = grind (arith, nat_tests, f, is)
chain_by a b c false false true one two three e f g rest is also = absurd (grind (arith, nat_tests, g, is, also))
chain_by a b c false false false one two three e f g rest is also = grind (arith, nat_tests, is, also)

pub chained : (p q r : List ℕ) → comes_before p q ≡ true → comes_before q r ≡ true → comes_before p r ≡ true
chained [] q r is also = refl
chained (first ∷ p) [] r is also = absurd cc
chained (first ∷ p) (second ∷ q) [] is also = absurd cc
chained (first ∷ p) (second ∷ q) (third ∷ r) is also =
    chain_by first second third (first == second) (second == third) (first == third) (comes_before p q) (comes_before q r) (comes_before p r) refl refl refl (chained p q r) is also

-- ---- properties of all that is stored

module _ (P : CStored → Type 0) where
  if_each : (test : Bool) (one : CStored) (few : List CStored) → P one → EachStored P few → EachStored P (if test then one ∷ few else few)
  if_each true one few held more = (held, more)
  if_each false one few held more = more

  pub kept_each : (types : CTypes) (type : CTy) (stored : List CStored) → EachStored P stored → EachStored P (kept types type stored)
  kept_each types type [] held = tt
  kept_each types type (one ∷ others) held = if_each (kept_by types type others one) one (kept types type others) held.0 (kept_each types type others held.1)

  inserted_by : (test : Bool) (one first : CStored) (others behind : List CStored) → P one → P first → EachStored P others → EachStored P behind
      → EachStored P (if test then first ∷ behind else one ∷ first ∷ others)
  inserted_by true one first others behind a b c d = (b, d)
  inserted_by false one first others behind a b c d = (a, (b, c))

  pub inserted_each : (one : CStored) (stored : List CStored) → P one → EachStored P stored → EachStored P (put_in_order one stored)
  inserted_each one [] held more = (held, tt)
  inserted_each one (first ∷ others) held more = inserted_by (comes_before first.path one.path) one first others (put_in_order one others) held more.0 more.1 (inserted_each one others held more.1)

  pub sorted_each : (stored : List CStored) → EachStored P stored → EachStored P (in_order stored)
  sorted_each [] held = tt
  sorted_each (one ∷ others) held = inserted_each one (in_order others) held.0 (sorted_each others held.1)

pub each_more : (P Q : CStored → Type 0) (stored : List CStored) → ((one : CStored) → P one → Q one) → EachStored P stored → EachStored Q stored
each_more P Q [] more held = tt
each_more P Q (one ∷ others) more held = (more one held.0, each_more P Q others more held.1)

pub each_both : (P Q : CStored → Type 0) (stored : List CStored) → EachStored P stored → EachStored Q stored → EachStored (λ one. P one × Q one) stored
each_both P Q [] held also = tt
each_both P Q (one ∷ others) held also = ((held.0, also.0), each_both P Q others held.1 also.1)

-- ---- what is kept

module _ (types : CTypes) (type : CTy) where
  abbrev pub IsApart : CStored → CStored → Type 0
  IsApart one other = AreApart types type one.path other.path

  turned_apart : (one other : CStored) → IsApart one other → IsApart other one
  turned_apart one other held = ⊎_elim (λ is. inr is) (λ is. inl is) held

  -- each stands apart from those behind it
  abbrev AllApart : List CStored → Type 0
  AllApart [] = Unit {0}
  AllApart (one ∷ others) = EachStored (IsApart one) others × AllApart others

  -- and before them
  abbrev pub IsBefore : CStored → CStored → Type 0
  IsBefore one other = (comes_before one.path other.path ≡ true) × IsApart one other

  abbrev pub AllBefore : List CStored → Type 0
  AllBefore [] = Unit {0}
  AllBefore (one ∷ others) = EachStored (IsBefore one) others × AllBefore others

  is_false : (test : Bool) → not test ≡ true → test ≡ false
  is_false true is = absurd cc
  is_false false is = refl

  kept_from : (one : CStored) (others : List CStored) → kept_by types type others one ≡ true → EachStored (IsApart one) others
  kept_from one [] is = tt
  kept_from one (later ∷ others) is = (inl (is_false (takes_away types (Some type) later.path one.path) (both is).0), kept_from one others (both is).1)

  if_apart : (test : Bool) (one : CStored) (others : List CStored) → (test ≡ true → EachStored (IsApart one) others) → AllApart others → AllApart (if test then one ∷ others else others)
  if_apart true one others held more = (held refl, more)
  if_apart false one others held more = more

  kept_apart : (stored : List CStored) → AllApart (kept types type stored)
  kept_apart [] = tt
  kept_apart (one ∷ others) =
      if_apart (kept_by types type others one) one (kept types type others) (λ is. kept_each (IsApart one) types type others (kept_from one others is)) (kept_apart others)

  -- ---- in order

  inserted_before : (test : Bool) (one first : CStored) (others : List CStored) → comes_before first.path one.path ≡ test → IsApart one first → EachStored (IsApart one) others
      → EachStored (IsBefore first) others → AllBefore others → AllBefore (put_in_order one others) → AllBefore (if test then first ∷ put_in_order one others else one ∷ first ∷ others)
  inserted_before true one first others e apart more held rest behind = (inserted_each (IsBefore first) one others (e, turned_apart one first apart) held, behind)
  inserted_before false one first others e apart more held rest behind =
      let front : comes_before one.path first.path ≡ true = total first.path one.path e in (
        ((front, apart), each_more _ (IsBefore one) others (λ next is. (chained one.path first.path next.path front is.0.0, is.1)) (each_both (IsBefore first) (IsApart one) others held more)),
        (held, rest),
      )

  inserted : (one : CStored) (stored : List CStored) → EachStored (IsApart one) stored → AllBefore stored → AllBefore (put_in_order one stored)
  inserted one [] apart held = (tt, tt)
  inserted one (first ∷ others) apart held =
      inserted_before (comes_before first.path one.path) one first others refl apart.0 apart.1 held.0 held.1 (inserted one others apart.1 held.1)

  sorted : (stored : List CStored) → AllApart stored → AllBefore (in_order stored)
  sorted [] held = tt
  sorted (one ∷ others) held = inserted one (in_order others) (sorted_each (IsApart one) others held.0) (sorted others held.1)

  pub kept_before : (stored : List CStored) → AllBefore (in_order (kept types type stored))
  kept_before stored = sorted (kept types type stored) (kept_apart stored)
