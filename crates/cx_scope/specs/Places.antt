-- Where in a list something stands, and lists that change at one place.
use Rattle.std.specs.Prelude.{◌≡◌, ℕ, zero, suc, Bool, if◌then◌else◌, List, [], ◌∷◌, map, Option, None, Some, slice_get, slice_set, bytes_eq}
use Rattle.cx_rules.specs.Declare.{thing_named}
use Rattle.cx_rules.specs.Scope.{CThing}

-- the first that passes a test, counted from a number on
abbrev pub first_from : {A : Type 0} → ℕ → (A → Bool) → List A → Option ℕ
first_from k test [] = None
first_from k test (x ∷ xs) = if test x then Some k else first_from (suc k) test xs

abbrev pub changed_at : {A : Type 0} → ℕ → (A → A) → List A → List A
changed_at n change [] = []
changed_at zero change (x ∷ xs) = change x ∷ xs
changed_at (suc n) change (x ∷ xs) = x ∷ changed_at n change xs

abbrev pub changed_found : {A : Type 0} → Option ℕ → (A → A) → List A → List A
changed_found None change xs = xs
changed_found (Some n) change xs = changed_at n change xs

abbrev pub get_found : {A : Type 0} → Option ℕ → List A → Option A
get_found None xs = None
get_found (Some n) xs = slice_get xs n

abbrev pub set_found : {A : Type 0} → Option ℕ → A → List A → List A
set_found None new xs = xs
set_found (Some n) new xs = slice_set xs n new

-- those that pass a test are changed
abbrev pub changed_by : {A : Type 0} → (A → Bool) → (A → A) → List A → List A
changed_by test change xs = map (λ one. if test one then change one else one) xs

-- ---- what has linkage

abbrev pub named : List ℕ → CThing → Bool
named name one = bytes_eq one.name name

-- the object or function of a name stands at this place, and no other has the name
pub record IsThingAt (name : List ℕ) (things : List CThing) (found : Option ℕ) : Type 0 where
  pub is : thing_named name things ≡ get_found found things
  pub set : (new : CThing) → changed_by (named name) (λ _. new) things ≡ set_found found new things
