-- What holds of each element of a list.
use Rattle.std.proofs.Common.{ℕ, zero, suc, Bool, true, false, if◌then◌else◌, List, [], ◌∷◌, ◌++◌, map, All, slice_set}
use Rattle.std.proofs.lemmas.List.Elements.{All-nil, All-cons}

abbrev pub Each : {X : Type 0} → (X → Type 0) → List X → Type 0
Each P [] = Unit {0}
Each P (x ∷ xs) = P x × Each P xs

-- what holds on both sides of a test
pub by_test : {X : Type 0} (P : X → Type 0) (test : Bool) (x y : X) → P x → P y → P (if test then x else y)
by_test P true x y first second = first
by_test P false x y first second = second

module _ {X : Type 0} where
  pub each_all : (P : X → Type 0) (xs : List X) → Each P xs → All P xs
  each_all P [] held = All-nil P
  each_all P (x ∷ xs) held = All-cons P x xs held.0 (each_all P xs held.1)

  pub each_both : (P : X → Type 0) (xs ys : List X) → Each P xs → Each P ys → Each P (xs ++ ys)
  each_both P [] ys first second = second
  each_both P (x ∷ xs) ys first second = (first.0, each_both P xs ys first.1 second)

  pub each_mapped : {Y : Type 0} (P : X → Type 0) (Q : Y → Type 0) (f : X → Y) → ((x : X) → P x → Q (f x)) → (xs : List X) → Each P xs → Each Q (map f xs)
  each_mapped P Q f goes [] held = tt
  each_mapped P Q f goes (x ∷ xs) held = (goes x held.0, each_mapped P Q f goes xs held.1)

  -- one element is another one
  pub each_set : (P : X → Type 0) (xs : List X) (index : ℕ) (x : X) → P x → Each P xs → Each P (slice_set xs index x)
  each_set P [] index x new held = tt
  each_set P (y ∷ ys) zero x new held = (new, held.1)
  each_set P (y ∷ ys) (suc index) x new held = (held.0, each_set P ys index x new held.1)
