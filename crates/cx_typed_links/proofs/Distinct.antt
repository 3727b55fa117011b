-- Numbers of what units give differ, where those of one unit do, and no two units have one number.
use Rattle.std.proofs.Common.{◌≡◌, ℕ, suc, ◌+◌, ◌≤◌, ◌==◌, Bool, true, false, List, [], ◌∷◌, ◌++◌, map, All, Some, slice_get, eqb, refl, sym, arith, subst}
use Rattle.std.specs.List.{IsDistinct}
use Rattle.std.proofs.lemmas.Bool.Decides.{nat_tests}
use Rattle.std.proofs.lemmas.List.Elements.{All-nil, All-cons, All-head, All-tail, All-append}
use Rattle.cx_core.specs.Trees.{CUnit}
use Rattle.cx_links.specs.Program.{from_each}
use Rattle.cx_typed_links.proofs.Joined.{none_on}
use Rattle.cx_typed_links.proofs.Listed.{map_joined}
use Rattle.cx_typed_links.proofs.Places.{AreOther, same_number}

apart_by : (first second : ℕ) → (first ≡ second → ⊥) → (same : Bool) → eqb first second ≡ same → same ≡ false
apart_by first second apart false is = refl
apart_by first second apart true is = absurd (apart (same_number first second is))

-- two numbers that aren't the same
pub not_same : (first second : ℕ) → (first ≡ second → ⊥) → eqb first second ≡ false
not_same first second apart = apart_by first second apart (eqb first second) refl

pub not_same_back : (first second : ℕ) → eqb first second ≡ false → first ≡ second → ⊥
not_same_back first second is same = (let h : (first == second) ≡ false = is in grind (arith, nat_tests, h, same))

pub other_joined : (number : ℕ) (ns ms : List ℕ) → AreOther number ns → AreOther number ms → AreOther number (ns ++ ms)
other_joined number [] ms first second = second
other_joined number (n ∷ ns) ms first second = (first.0, other_joined number ns ms first.1 second)

pub other_all : {X : Type 0} (key : X → ℕ) (number : ℕ) (xs : List X) → All (λ x. number ≡ key x → ⊥) xs → AreOther number (map key xs)
other_all key number [] all = tt
other_all key number (x ∷ xs) all =
    (not_same number (key x) (All-head (λ y. number ≡ key y → ⊥) x xs all), other_all key number xs (All-tail (λ y. number ≡ key y → ⊥) x xs all))

pub distinct_joined : (ns ms : List ℕ) → IsDistinct eqb ns → IsDistinct eqb ms → All (λ n. AreOther n ms) ns → IsDistinct eqb (ns ++ ms)
unfolding IsDistinct
distinct_joined [] ms first second apart = second
distinct_joined (n ∷ ns) ms first second apart = (
  other_joined n ns ms first.0 (All-head (λ m. AreOther m ms) n ns apart),
  distinct_joined ns ms first.1 second (All-tail (λ m. AreOther m ms) n ns apart),
)

keys_all : {X : Type 0} (P : ℕ → Type 0) (key : X → ℕ) (xs : List X) → All (λ x. P (key x)) xs → All P (map key xs)
keys_all P key [] all = All-nil P
keys_all P key (x ∷ xs) all =
    All-cons P (key x) (map key xs) (All-head (λ y. P (key y)) x xs all) (keys_all P key xs (All-tail (λ y. P (key y)) x xs all))

others_apart : {X : Type 0} (key : X → ℕ) (xs ys : List X) → All (λ x. All (λ y. key x ≡ key y → ⊥) ys) xs → All (λ x. AreOther (key x) (map key ys)) xs
others_apart key [] ys all = All-nil (λ x. AreOther (key x) (map key ys))
others_apart key (x ∷ xs) ys all =
    All-cons (λ z. AreOther (key z) (map key ys)) x xs (other_all key (key x) ys (All-head (λ z. All (λ y. key z ≡ key y → ⊥) ys) x xs all))
    (others_apart key xs ys (All-tail (λ z. All (λ y. key z ≡ key y → ⊥) ys) x xs all))

-- numbers of two lists that have none in common
pub keys_joined : {X : Type 0} (key : X → ℕ) (xs ys : List X) → IsDistinct eqb (map key xs) → IsDistinct eqb (map key ys)
    → All (λ x. All (λ y. key x ≡ key y → ⊥) ys) xs → IsDistinct eqb (map key (xs ++ ys))
keys_joined key xs ys first second apart =
    subst (IsDistinct eqb) (sym (map_joined key xs ys))
    (distinct_joined (map key xs) (map key ys) first second
    (keys_all (λ n. AreOther n (map key ys)) key xs (others_apart key xs ys apart)))

pub all_made : {X : Type 0} (P Q : X → Type 0) (xs : List X) → ((x : X) → P x → Q x) → All P xs → All Q xs
all_made P Q [] goes all = All-nil Q
all_made P Q (x ∷ xs) goes all = All-cons Q x xs (goes x (All-head P x xs all)) (all_made P Q xs goes (All-tail P x xs all))

-- ---- what each unit gives

nothing_on : (n : ℕ) → n + 0 ≡ n
nothing_on n = omega arith

one_on : (n at : ℕ) → n + suc at ≡ suc n + at
one_on n at = omega arith

itself : (n : ℕ) → n ≤ n
itself n = omega arith

before_next : (n m : ℕ) → suc n ≤ m → n ≤ m
before_next n m less = omega arith

not_before : (n m : ℕ) → suc n ≤ m → n ≡ m → ⊥
not_before n m less same = omega (arith, less, same)

module _ {A : Type 0} (key : A → ℕ) (gives : CUnit → ℕ → List A) (At : ℕ → A → Type 0) (units : List CUnit)
    (all : (unit : ℕ) (one : CUnit) → slice_get units unit ≡ Some one → All (At unit) (gives one unit))
    (within : (unit : ℕ) (one : CUnit) → slice_get units unit ≡ Some one → IsDistinct eqb (map key (gives one unit)))
    (apart : (first second : ℕ) (x y : A) → At first x → At second y → key x ≡ key y → first ≡ second) where
  -- what a unit gives from this one on
  record IsFrom (start : ℕ) (x : A) : Type 0 where
    unit : ℕ
    less : start ≤ unit
    here : At unit x

  abbrev Are : ℕ → List CUnit → Type 0
  Are start others = (at : ℕ) (one : CUnit) → slice_get others at ≡ Some one → slice_get units (start + at) ≡ Some one

  here_is : (start : ℕ) (first : CUnit) (others : List CUnit) → Are start (first ∷ others) → slice_get units start ≡ Some first
  here_is start first others each = subst (λ n. slice_get units n ≡ Some first) (nothing_on start) (each 0 first refl)

  rest_are : (start : ℕ) (first : CUnit) (others : List CUnit) → Are start (first ∷ others) → Are (suc start) others
  rest_are start first others each at one is = subst (λ n. slice_get units n ≡ Some one) (one_on start at) (each (suc at) one is)

  all_from : (start : ℕ) (others : List CUnit) → Are start others → All (IsFrom start) (from_each gives start others)
  all_from start [] each = All-nil (IsFrom start)
  all_from start (first ∷ others) each =
      All-append (IsFrom start) (gives first start) (from_each gives (suc start) others)
      (all_made (At start) (IsFrom start) (gives first start) (λ x here. record { unit = start; less = itself start; here = here })
      (all start first (here_is start first others each)))
      (all_made (IsFrom (suc start)) (IsFrom start) (from_each gives (suc start) others)
      (λ x from. record { unit = from.unit; less = before_next start from.unit from.less; here = from.here })
      (all_from (suc start) others (rest_are start first others each)))

  differ_from : (start : ℕ) (others : List CUnit) → Are start others → IsDistinct eqb (map key (from_each gives start others))
  unfolding IsDistinct
  differ_from start [] each = tt
  differ_from start (first ∷ others) each =
      keys_joined key (gives first start) (from_each gives (suc start) others)
      (within start first (here_is start first others each))
      (differ_from (suc start) others (rest_are start first others each))
      (all_made (At start) (λ x. All (λ y. key x ≡ key y → ⊥) (from_each gives (suc start) others)) (gives first start)
      (λ x here. all_made (IsFrom (suc start)) (λ y. key x ≡ key y → ⊥) (from_each gives (suc start) others)
      (λ y from same. not_before start from.unit from.less (apart start from.unit x y here from.here same))
      (all_from (suc start) others (rest_are start first others each)))
      (all start first (here_is start first others each)))

  pub units_differ : IsDistinct eqb (map key (from_each gives 0 units))
  units_differ = differ_from 0 units (λ at one is. subst (λ n. slice_get units n ≡ Some one) (sym (none_on at)) is)
