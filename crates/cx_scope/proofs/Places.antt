-- The place that a search finds is the one that changes.
use Rattle.std.proofs.Common.{arith, ◌≡◌, refl, sym, ap, ◌∙◌, ℕ, zero, suc, ◌+◌, ◌<◌, ◌||◌, Bool, true, false, if◌then◌else◌, List, [], ◌∷◌, length, map, drop, Option, None, Some, option_map, find, slice_get, slice_set}
use Rattle.std.specs.List.{list_any}
use Rattle.cx_scope.specs.Places.{first_from, changed_at, changed_by, get_found}

-- the first that passes a test
abbrev first_index : {A : Type 0} → (A → Bool) → List A → Option ℕ
first_index test [] = None
first_index test (x ∷ xs) = if test x then Some 0 else option_map suc (first_index test xs)

-- ---- where it is found

counted_head : (b : Bool) (k : ℕ) (first : Option ℕ) (other : Option ℕ) → first ≡ option_map (λ j. suc k + j) other
    → (if b then Some k else first) ≡ option_map (λ j. k + j) (if b then Some 0 else option_map suc other)
counted_head true k first other e = ap Some (omega arith)
counted_head false k first None e = e
counted_head false k first (Some j) e = e ∙ ap Some (omega arith)

counted : {A : Type 0} (test : A → Bool) (k : ℕ) (xs : List A) → first_from k test xs ≡ option_map (λ j. k + j) (first_index test xs)
counted test k [] = refl
counted test k (x ∷ xs) = counted_head (test x) k (first_from (suc k) test xs) (first_index test xs) (counted test (suc k) xs)

none_counted : (o : Option ℕ) → option_map (λ j. 0 + j) o ≡ o
none_counted None = refl
none_counted (Some j) = ap Some (omega arith)

from_zero : {A : Type 0} (test : A → Bool) (xs : List A) → first_from 0 test xs ≡ first_index test xs
from_zero test xs = counted test 0 xs ∙ none_counted (first_index test xs)

-- ---- what changes

stays_head : {A : Type 0} (b any : Bool) (x y : A) (xs ys : List A) → (b || any) ≡ false → (any ≡ false → ys ≡ xs) → (if b then y else x) ∷ ys ≡ x ∷ xs
stays_head true any x y xs ys e rest = absurd cc
stays_head false any x y xs ys e rest = ap (λ others. x ∷ others) (rest e)

-- where none passes the test nothing changes
stays : {A : Type 0} (test : A → Bool) (change : A → A) (xs : List A) → list_any test xs ≡ false → changed_by test change xs ≡ xs
stays test change [] e = refl
stays test change (x ∷ xs) e =
    stays_head (test x) (list_any test xs) x (change x) xs (changed_by test change xs) e (λ f. stays test change xs f)

none_head : {A : Type 0} (b : Bool) (other : Option ℕ) (x y : A) (xs ys : List A) → (if b then Some 0 else option_map suc other) ≡ None
    → (other ≡ None → ys ≡ xs) → (if b then y else x) ∷ ys ≡ x ∷ xs
none_head true other x y xs ys e rest = absurd cc
none_head false None x y xs ys e rest = ap (λ others. x ∷ others) (rest refl)
none_head false (Some j) x y xs ys e rest = absurd cc

none_changes : {A : Type 0} (test : A → Bool) (change : A → A) (xs : List A) → first_index test xs ≡ None → changed_by test change xs ≡ xs
none_changes test change [] e = refl
none_changes test change (x ∷ xs) e =
    none_head (test x) (first_index test xs) x (change x) xs (changed_by test change xs) e (λ f. none_changes test change xs f)

zero_head : {A : Type 0} (b : Bool) (other : Option ℕ) (x y : A) (xs ys : List A) → (if b then Some 0 else option_map suc other) ≡ Some 0
    → ys ≡ xs → (if b then y else x) ∷ ys ≡ y ∷ xs
zero_head true other x y xs ys e rest = ap (λ others. y ∷ others) rest
zero_head false None x y xs ys e rest = absurd cc
zero_head false (Some j) x y xs ys e rest = absurd cc

suc_head : {A : Type 0} (b : Bool) (other : Option ℕ) (n : ℕ) (x y : A) (xs ys : List A) → (if b then Some 0 else option_map suc other) ≡ Some (suc n)
    → (other ≡ Some n → ys ≡ xs) → (if b then y else x) ∷ ys ≡ x ∷ xs
suc_head true other n x y xs ys e rest = absurd cc
suc_head false None n x y xs ys e rest = absurd cc
suc_head false (Some j) n x y xs ys e rest = ap (λ others. x ∷ others) (rest cc)

one_changes : {A : Type 0} (test : A → Bool) (change : A → A) (xs : List A) (n : ℕ) → first_index test xs ≡ Some n → list_any test (drop (suc n) xs) ≡ false
    → changed_by test change xs ≡ changed_at n change xs
one_changes test change [] n e rest = absurd cc
one_changes test change (x ∷ xs) zero e rest =
    zero_head (test x) (first_index test xs) x (change x) xs (changed_by test change xs) e (stays test change xs rest)
one_changes test change (x ∷ xs) (suc n) e rest =
    suc_head (test x) (first_index test xs) n x (change x) (changed_at n change xs) (changed_by test change xs) e (λ f. one_changes test change xs n f rest)

pub none_found : {A : Type 0} (test : A → Bool) (xs : List A) → first_from 0 test xs ≡ None
    → (change : A → A) → changed_by test change xs ≡ xs
none_found test xs e = λ change. none_changes test change xs (sym (from_zero test xs) ∙ e)

pub one_found : {A : Type 0} (test : A → Bool) (xs : List A) (n : ℕ) → first_from 0 test xs ≡ Some n → list_any test (drop (n + 1) xs) ≡ false
    → (change : A → A) → changed_by test change xs ≡ changed_at n change xs
one_found test xs n e rest = λ change. one_changes test change xs n (sym (from_zero test xs) ∙ e) (let same : suc n ≡ n + 1 = omega arith in rw same rest)

-- ---- what stands there

find_head : {A : Type 0} (b : Bool) (other : Option ℕ) (x : A) (xs : List A) (next : Option A) → next ≡ get_found other xs
    → (if b then Some x else next) ≡ get_found (if b then Some 0 else option_map suc other) (x ∷ xs)
find_head true other x xs next e = refl
find_head false None x xs next e = e
find_head false (Some j) x xs next e = e

find_is_index : {A : Type 0} (test : A → Bool) (xs : List A) → find test xs ≡ get_found (first_index test xs) xs
find_is_index test [] = refl
find_is_index test (x ∷ xs) = find_head (test x) (first_index test xs) x xs (find test xs) (find_is_index test xs)

pub find_is : {A : Type 0} (test : A → Bool) (xs : List A) → find test xs ≡ get_found (first_from 0 test xs) xs
find_is test xs = find_is_index test xs ∙ ap (λ o. get_found o xs) (sym (from_zero test xs))

-- ---- changes at a place

pub set_is : {A : Type 0} (n : ℕ) (new : A) (xs : List A) → changed_at n (λ _. new) xs ≡ slice_set xs n new
set_is n new [] = refl
set_is zero new (x ∷ xs) = refl
set_is (suc n) new (x ∷ xs) = ap (λ others. x ∷ others) (set_is n new xs)

-- an element that is replaced by what a change makes of it
pub changed_set : {A B : Type 0} (view : A → B) (change : B → B) (xs : List A) (n : ℕ) (x y : A) → slice_get xs n ≡ Some x → view y ≡ change (view x)
    → map view (slice_set xs n y) ≡ changed_at n change (map view xs)
changed_set view change [] n x y found e = absurd cc
changed_set view change (z ∷ xs) zero x y found e = ap (λ first. first ∷ map view xs) (e ∙ ap (λ o. change (view o)) (let same : z ≡ x = cc in sym same))
changed_set view change (z ∷ xs) (suc n) x y found e = ap (λ others. view z ∷ others) (changed_set view change xs n x y found e)

pub changed_past : {A : Type 0} (change : A → A) (xs : List A) (n : ℕ) → slice_get xs n ≡ None → changed_at n change xs ≡ xs
changed_past change [] n found = refl
changed_past change (x ∷ xs) zero found = absurd cc
changed_past change (x ∷ xs) (suc n) found = ap (λ others. x ∷ others) (changed_past change xs n found)

pub changed_out : {A B : Type 0} (view : A → B) (change : B → B) (xs : List A) (n : ℕ) → (n < length xs → false ≡ true)
    → map view xs ≡ changed_at n change (map view xs)
changed_out view change [] n out = refl
changed_out view change (x ∷ xs) zero out = absurd (let no : false ≡ true = out (omega arith) in cc)
changed_out view change (x ∷ xs) (suc n) out = ap (λ others. view x ∷ others) (changed_out view change xs n (λ below. out (omega (arith, below))))
