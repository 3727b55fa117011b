-- Lists at the end of a unit: what holds of each, what is found there, and that no two are the same.
use Rattle.std.proofs.Common.{◌≡◌, ◌⊎◌, inl, inr, ℕ, zero, suc, ◌<◌, Bool, true, false, ◌||◌, if◌then◌else◌, List, [], ◌∷◌, ◌++◌, map, length, None, Some, find, slice_get, All, refl, ap, ◌∙◌, subst, arith}
use Rattle.std.proofs.lemmas.List.Elements.{All-from_recursion}
use Rattle.std.specs.List.{IsDistinct, AllByRecursion, Contains, list_any}

same_value : {X : Type 0} {x y : X} → Some x ≡ Some y → x ≡ y
same_value is = cc

-- ---- what holds of each

abbrev pub Each : {X : Type 0} → (X → Type 0) → List X → Type 0
Each P [] = Unit {0}
Each P (x ∷ xs) = P x × Each P xs

abbrev pub IsAmong : {X : Type 0} → X → List X → Type 0
IsAmong x [] = ⊥
IsAmong x (y ∷ ys) = (y ≡ x) ⊎ IsAmong x ys

module _ {X : Type 0} where
  by_recursion : (P : X → Type 0) (xs : List X) → Each P xs → AllByRecursion P xs
  by_recursion P [] held = tt
  by_recursion P (x ∷ xs) held = (held.0, by_recursion P xs held.1)

  pub each_all : (P : X → Type 0) (xs : List X) → Each P xs → All P xs
  each_all P xs held = All-from_recursion P xs (by_recursion P xs held)

  pub each_got : (P : X → Type 0) (xs : List X) → ((index : ℕ) (x : X) → slice_get xs index ≡ Some x → P x) → Each P xs
  each_got P [] held = tt
  each_got P (x ∷ xs) held = (held 0 x refl, each_got P xs (λ index y is. held (suc index) y is))

  pub each_more : (P Q : X → Type 0) (xs : List X) → ((x : X) → P x → Q x) → Each P xs → Each Q xs
  each_more P Q [] more held = tt
  each_more P Q (x ∷ xs) more held = (more x held.0, each_more P Q xs more held.1)

  pub each_both : (P : X → Type 0) (xs ys : List X) → Each P xs → Each P ys → Each P (xs ++ ys)
  each_both P [] ys first second = second
  each_both P (x ∷ xs) ys first second = (first.0, each_both P xs ys first.1 second)

  pub each_mapped : {Y : Type 0} (P : Y → Type 0) (f : X → Y) (xs : List X) → Each (λ x. P (f x)) xs → Each P (map f xs)
  each_mapped P f [] held = tt
  each_mapped P f (x ∷ xs) held = (held.0, each_mapped P f xs held.1)

  -- ---- what is among them

  pub got_among : (xs : List X) (index : ℕ) (x : X) → slice_get xs index ≡ Some x → IsAmong x xs
  got_among [] index x is = absurd cc
  got_among (y ∷ ys) zero x is = inl (same_value is)
  got_among (y ∷ ys) (suc index) x is = inr (got_among ys index x is)

  pub among_first : (x : X) (xs ys : List X) → IsAmong x xs → IsAmong x (xs ++ ys)
  among_first x [] ys is = absurd is
  among_first x (y ∷ xs) ys (inl same) = inl same
  among_first x (y ∷ xs) ys (inr more) = inr (among_first x xs ys more)

  pub among_second : (x : X) (xs ys : List X) → IsAmong x ys → IsAmong x (xs ++ ys)
  among_second x [] ys is = is
  among_second x (y ∷ xs) ys is = inr (among_second x xs ys is)

  pub among_mapped : {Y : Type 0} (f : X → Y) (x : X) (xs : List X) → IsAmong x xs → IsAmong (f x) (map f xs)
  among_mapped f x [] is = absurd is
  among_mapped f x (y ∷ xs) (inl same) = inl (ap f same)
  among_mapped f x (y ∷ xs) (inr more) = inr (among_mapped f x xs more)

  pub among_got : (x : X) (xs : List X) → IsAmong x xs → (index : ℕ) × (slice_get xs index ≡ Some x)
  among_got x [] is = absurd is
  among_got x (y ∷ xs) (inl same) = (0, ap Some same)
  among_got x (y ∷ xs) (inr more) = (let there = among_got x xs more in (suc there.0, there.1))

  pub among_contains : (x : X) (xs : List X) → IsAmong x xs → Contains xs x
  among_contains x [] is = absurd is
  among_contains x (y ∷ xs) (inl same) = (0, omega arith, same)
  among_contains x (y ∷ xs) (inr more) = (let there = among_contains x xs more in let less : there.0 < length xs = there.1 in (suc there.0, omega (arith, less), there.2))

  -- what a test finds anywhere is there
  pub any_among : (test : X → Bool) (xs : List X) → list_any test xs ≡ true → (x : X) × IsAmong x xs × (test x ≡ true)
  any_among test [] is = absurd cc
  any_among test (y ∷ xs) is = by_test (test y) refl is (λ later. any_among test xs later)
    where
      by_test : (b : Bool) → test y ≡ b → (b || list_any test xs) ≡ true → (list_any test xs ≡ true → (x : X) × IsAmong x xs × (test x ≡ true)) → (x : X) × IsAmong x (y ∷ xs) × (test x ≡ true)
      by_test true e is rest = (y, inl refl, e)
      by_test false e is rest = (let there = rest is in (there.0, inr there.1, there.2))

  pub each_among : (P : X → Type 0) (xs : List X) (x : X) → Each P xs → IsAmong x xs → P x
  each_among P [] x held is = absurd is
  each_among P (y ∷ xs) x held (inl same) = subst P same held.0
  each_among P (y ∷ xs) x held (inr more) = each_among P xs x held.1 more

  -- what passes a test that nothing else passes is found by it
  pub find_among : (test : X → Bool) (xs : List X) (x : X) → IsAmong x xs → test x ≡ true → Each (λ y. test y ≡ true → y ≡ x) xs → find test xs ≡ Some x
  find_among test [] x is passes only = absurd is
  find_among test (y ∷ xs) x (inl same) passes only = ap (λ b. if b then Some y else find test xs) (ap test same ∙ passes) ∙ ap (λ z. Some z) same
  find_among test (y ∷ xs) x (inr more) passes only = by_test (test y) refl (find_among test xs x more passes only.1)
    where
      by_test : (b : Bool) → test y ≡ b → find test xs ≡ Some x → (if b then Some y else find test xs) ≡ Some x
      by_test true e rest = ap (λ z. Some z) (only.0 e)
      by_test false e rest = rest

  -- what is found passes
  pub find_passes : (test : X → Bool) (xs : List X) (x : X) → find test xs ≡ Some x → IsAmong x xs × (test x ≡ true)
  find_passes test [] x is = absurd cc
  find_passes test (y ∷ xs) x is = by_test (test y) refl is (λ later. find_passes test xs x later)
    where
      by_test : (b : Bool) → test y ≡ b → (if b then Some y else find test xs) ≡ Some x → (find test xs ≡ Some x → IsAmong x xs × (test x ≡ true)) → IsAmong x (y ∷ xs) × (test x ≡ true)
      by_test true e is rest = (inl (same_value is), subst (λ z. test z ≡ true) (same_value is) e)
      by_test false e is rest = (let there = rest is in (inr there.0, there.1))

  pub find_none : (test : X → Bool) (xs : List X) → Each (λ y. test y ≡ false) xs → find test xs ≡ None
  find_none test [] held = refl
  find_none test (y ∷ xs) held = ap (λ b. if b then Some y else find test xs) held.0 ∙ find_none test xs held.1

-- ---- no two are the same

abbrev pub AreApart : {X : Type 0} → (X → X → Bool) → List X → Type 0
AreApart same [] = Unit {0}
AreApart same (x ∷ xs) = Each (λ y. same x y ≡ false) xs × AreApart same xs

module _ {X : Type 0} where
  pub apart_distinct : (same : X → X → Bool) (xs : List X) → AreApart same xs → IsDistinct same xs
  unfolding IsDistinct
  apart_distinct same [] held = tt
  apart_distinct same (x ∷ xs) held = (by_recursion (λ y. same x y ≡ false) xs held.0, apart_distinct same xs held.1)

  pub apart_both : (same : X → X → Bool) (xs ys : List X) → AreApart same xs → AreApart same ys → Each (λ x. Each (λ y. same x y ≡ false) ys) xs → AreApart same (xs ++ ys)
  apart_both same [] ys first second cross = second
  apart_both same (x ∷ xs) ys first second cross = (each_both (λ y. same x y ≡ false) xs ys first.0 cross.0, apart_both same xs ys first.1 second cross.1)

  pub apart_mapped : {Y : Type 0} (same : Y → Y → Bool) (f : X → Y) (xs : List X) → AreApart (λ x y. same (f x) (f y)) xs → AreApart same (map f xs)
  apart_mapped same f [] held = tt
  apart_mapped same f (x ∷ xs) held = (each_mapped (λ y. same (f x) y ≡ false) f xs held.0, apart_mapped same f xs held.1)

  pub apart_got : (same : X → X → Bool) (xs : List X)
      → ((first second : ℕ) (x y : X) → slice_get xs first ≡ Some x → slice_get xs second ≡ Some y → same x y ≡ true → first ≡ second) → AreApart same xs
  apart_got same [] held = tt
  apart_got same (x ∷ xs) held = (
    each_got (λ y. same x y ≡ false) xs (λ index y is. by_test (same x y) refl index is),
    apart_got same xs (λ first second y z at there is. let h : suc first ≡ suc second = held (suc first) (suc second) y z at there is in omega (arith, h)),
  )
    where
      by_test : {y : X} (b : Bool) → same x y ≡ b → (index : ℕ) → slice_get xs index ≡ Some y → same x y ≡ false
      by_test {y = y} true e index is = absurd (let h : 0 ≡ suc index = held 0 (suc index) x y refl is e in omega (arith, h))
      by_test {y = y} false e index is = e

  pub apart_more : (same other : X → X → Bool) (xs : List X) → ((x y : X) → same x y ≡ false → other x y ≡ false) → AreApart same xs → AreApart other xs
  apart_more same other [] more held = tt
  apart_more same other (x ∷ xs) more held = (each_more (λ y. same x y ≡ false) (λ y. other x y ≡ false) xs (λ y is. more x y is) held.0, apart_more same other xs more held.1)
