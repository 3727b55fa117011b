-- What stands at a place of a list is one of its elements.
use Rattle.std.proofs.Common.{◌≡◌, refl, ap, ◌∙◌, ℕ, zero, suc, Bool, true, false, ◌||◌, map, List, [], ◌∷◌, Some, slice_get}
use Rattle.std.specs.List.{list_any}

or_here : (a b : Bool) → a ≡ true → (a || b) ≡ true
or_here a b is = rw is refl

or_behind : (a b : Bool) → b ≡ true → (a || b) ≡ true
or_behind true b is = refl
or_behind false b is = is

taken : {A : Type 0} (one other : A) → Some one ≡ Some other → one ≡ other
taken one other is = cc

pub any_got : {A B : Type 0} (view : A → B) (test : B → Bool) (list : List A) (index : ℕ) (one : A) → slice_get list index ≡ Some one → test (view one) ≡ true → list_any test (map view list) ≡ true
any_got view test [] index one is passes = absurd cc
any_got view test (first ∷ others) zero one is passes = or_here (test (view first)) (list_any test (map view others)) (ap (λ found. test (view found)) (taken first one is) ∙ passes)
any_got view test (first ∷ others) (suc index) one is passes = or_behind (test (view first)) (list_any test (map view others)) (any_got view test others index one is passes)
