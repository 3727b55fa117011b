-- What stands at the place of a number is the first of it.
use Rattle.std.proofs.Common.{arith, ◌≡◌, refl, sym, ap, ◌∙◌, ℕ, suc, ◌+◌, ◌==◌, Bool, true, false, if◌then◌else◌, List, [], ◌∷◌, map, Option, None, Some, Bor, option_map, find, slice_get}
use Rattle.std.proofs.lemmas.Option.{slice_get-map}
use Rattle.std.specs.Option.{option_copied}
use Rattle.whole_keys.specs.Places.{first_from}

-- the first that passes a test
abbrev first_index : {A : Type 0} → (A → Bool) → List A → Option ℕ
first_index test [] = None
first_index test (x ∷ xs) = if test x then Some 0 else option_map suc (first_index test xs)

counted_head : (b : Bool) (k : ℕ) (first : Option ℕ) (other : Option ℕ) → first ≡ option_map (λ j. suc k + j) other
    → (if b then Some k else first) ≡ option_map (λ j. k + j) (if b then Some 0 else option_map suc other)
counted_head true k first other e = ap Some (omega arith)
counted_head false k first None e = e
counted_head false k first (Some j) e = e ∙ ap Some (omega arith)

counted : {A : Type 0} (test : A → Bool) (k : ℕ) (xs : List A) → first_from k test xs ≡ option_map (λ j. k + j) (first_index test xs)
counted test k [] = refl
counted test k (x ∷ xs) = counted_head (test x) k (first_from (suc k) test xs) (first_index test xs) (counted test (suc k) xs)

none_counted : (o : Option ℕ) → option_map (λ j. 0 + j) o ≡ o
none_counted None = refl
none_counted (Some j) = ap Some (omega arith)

-- what stands at a place, if there is one
abbrev got : {A : Type 0} → Option ℕ → List A → Option A
got None xs = None
got (Some n) xs = slice_get xs n

behind : {A : Type 0} (x : A) (xs : List A) (found : Option ℕ) → got (option_map suc found) (x ∷ xs) ≡ got found xs
behind x xs None = refl
behind x xs (Some n) = refl

found_head : {A : Type 0} (b : Bool) (x : A) (xs : List A) (other : Option A) (place : Option ℕ) → other ≡ got place xs
    → (if b then Some x else other) ≡ got (if b then Some 0 else option_map suc place) (x ∷ xs)
found_head true x xs other place e = refl
found_head false x xs other place e = e ∙ sym (behind x xs place)

find_index : {A : Type 0} (test : A → Bool) (xs : List A) → find test xs ≡ got (first_index test xs) xs
find_index test [] = refl
find_index test (x ∷ xs) = found_head (test x) x xs (find test xs) (first_index test xs) (find_index test xs)

find_is : {A : Type 0} (test : A → Bool) (xs : List A) → find test xs ≡ got (first_from 0 test xs) xs
find_is test xs = find_index test xs ∙ ap (λ place. got place xs) (sym (counted test 0 xs ∙ none_counted (first_index test xs)))

viewed : {A B : Type 0} (view : A → B) (found : Option (Bor A)) → option_map (λ one. view one.now) found ≡ option_map view (option_copied found)
viewed view None = refl
viewed view (Some one) = refl

module _ {A B : Type 0} (view : A → B) (test : B → Bool) (things : List A) (place : Option ℕ) where
  -- no place is noted
  pub none_there : place ≡ first_from 0 test (map view things) → place ≡ None → None ≡ find test (map view things)
  none_there e is = sym (find_is test (map view things) ∙ ap (λ place. got place (map view things)) (sym e ∙ is))

  -- what stands at the place that is noted
  pub one_there : (at : ℕ) (found : Option (Bor A)) → place ≡ first_from 0 test (map view things) → place ≡ Some at → option_copied found ≡ slice_get things at
      → option_map (λ one. view one.now) found ≡ find test (map view things)
  one_there at found e is got_it =
      viewed view found ∙ ap (option_map view) got_it ∙ sym (slice_get-map view things at)
      ∙ sym (find_is test (map view things) ∙ ap (λ place. got place (map view things)) (sym e ∙ is))
