-- Names with linkage in lists (ISO C99, 6.2.2).
use Rattle.std.proofs.Common.{◌≡◌, ℕ, Bool, true, false, if◌then◌else◌, List, [], ◌∷◌, ◌++◌, map, Option, None, Some, bytes_eq, refl, sym, ap, ◌∙◌, subst}
use Rattle.std.proofs.lemmas.Slice.Eq.{bytes_eq-Decides}
use Rattle.cx_rules.specs.Declare.{thing_named}
use Rattle.cx_rules.specs.Scope.{CThing}

-- ---- names with linkage in lists

found_in : (name : List ℕ) (first : CThing) (others : List CThing) (same : Bool) (one : CThing) → (if same then Some first else thing_named name others) ≡ Some one
    → (more : List CThing) → (thing_named name others ≡ Some one → thing_named name more ≡ Some one) → (if same then Some first else thing_named name more) ≡ Some one
found_in name first others true one is more later = is
found_in name first others false one is more later = later is

pub kept_in_front : (name : List ℕ) (things more : List CThing) (one : CThing) → thing_named name things ≡ Some one → thing_named name (things ++ more) ≡ Some one
kept_in_front name [] more one is = absurd cc
kept_in_front name (first ∷ things) more one is =
    found_in name first things (bytes_eq first.name name) one is (things ++ more) (kept_in_front name things more one)

-- a thing that is put behind the others, and what is found then
pub data IsFoundBehind (name : List ℕ) (things : List CThing) (new one : CThing) : Type 0 where
  before : thing_named name things ≡ Some one → IsFoundBehind name things new one
  behind : thing_named name things ≡ None → new ≡ one → bytes_eq new.name name ≡ true → IsFoundBehind name things new one

behind_by : (name : List ℕ) (new one : CThing) (same : Bool) → bytes_eq new.name name ≡ same → (if same then Some new else None) ≡ Some one → (new ≡ one) × (bytes_eq new.name name ≡ true)
behind_by name new one true e is = (cc, e)
behind_by name new one false e is = absurd cc

found_step : (name : List ℕ) (first : CThing) (things : List CThing) (new one : CThing) (same : Bool) → bytes_eq first.name name ≡ same
    → (if same then Some first else thing_named name (things ++ new ∷ [])) ≡ Some one → (thing_named name (things ++ new ∷ []) ≡ Some one → IsFoundBehind name things new one)
    → IsFoundBehind name (first ∷ things) new one
found_step name first things new one true e is later = before (ap (λ b. if b then Some first else thing_named name things) e ∙ is)
found_step name first things new one false e is later = step (later is)
  where
    step : IsFoundBehind name things new one → IsFoundBehind name (first ∷ things) new one
    step (before held) = before (ap (λ b. if b then Some first else thing_named name things) e ∙ held)
    step (behind none new_is named) = behind (ap (λ b. if b then Some first else thing_named name things) e ∙ none) new_is named

pub found_behind : (name : List ℕ) (things : List CThing) (new one : CThing) → thing_named name (things ++ new ∷ []) ≡ Some one → IsFoundBehind name things new one
found_behind name [] new one is = let h = behind_by name new one (bytes_eq new.name name) refl is in behind refl h.0 h.1
found_behind name (first ∷ things) new one is = found_step name first things new one (bytes_eq first.name name) refl is (found_behind name things new one)

last_by : (name : List ℕ) (first : CThing) (things : List CThing) (new : CThing) (same : Bool) → (if same then Some first else thing_named name things) ≡ None
    → (thing_named name things ≡ None → thing_named name (things ++ new ∷ []) ≡ Some new) → (if same then Some first else thing_named name (things ++ new ∷ [])) ≡ Some new
last_by name first things new true held later = absurd cc
last_by name first things new false held later = later held

pub found_last : (name : List ℕ) (things : List CThing) (new : CThing) → thing_named name things ≡ None → bytes_eq new.name name ≡ true → thing_named name (things ++ new ∷ []) ≡ Some new
found_last name [] new none is = ap (λ b. if b then Some new else None) is
found_last name (first ∷ things) new none is = last_by name first things new (bytes_eq first.name name) none (λ rest. found_last name things new rest is)

-- a thing in place of that with its name
abbrev pub same_thing : List ℕ → CThing → CThing → CThing
same_thing name new one = if bytes_eq one.name name then new else one

abbrev pub set_thing : List ℕ → CThing → List CThing → List CThing
set_thing name new things = map (same_thing name new) things

-- what is found under a name, once a thing stands in place of that with its name
set_by : (name other : List ℕ) (new first : CThing) (same : Bool) → bytes_eq first.name name ≡ same → bytes_eq new.name other ≡ bytes_eq name other
    → bytes_eq (if same then new else first).name other ≡ bytes_eq first.name other
set_by name other new first true e named =
    let is : first.name ≡ name = (bytes_eq-Decides first.name name).0 e in named ∙ ap (λ n. bytes_eq n other) (sym is)
set_by name other new first false e named = refl

set_found : (name other : List ℕ) (new first one : CThing) (same here : Bool) → bytes_eq first.name name ≡ same → bytes_eq first.name other ≡ here
    → (few many : Option CThing) → (if here then Some first else few) ≡ Some one → (few ≡ Some one → many ≡ Some (same_thing name new one))
    → (if here then Some (if same then new else first) else many) ≡ Some (same_thing name new one)
set_found name other new first one same true e at few many is later =
    let is_first : first ≡ one = cc in
    ap (λ b. Some (if b then new else first)) (sym e) ∙ ap (λ x. Some (same_thing name new x)) is_first
set_found name other new first one same false e at few many is later = later is

pub found_set : (name other : List ℕ) (new : CThing) (things : List CThing) (one : CThing) → bytes_eq new.name other ≡ bytes_eq name other → thing_named other things ≡ Some one
    → thing_named other (set_thing name new things) ≡ Some (same_thing name new one)
found_set name other new [] one named is = absurd cc
found_set name other new (first ∷ things) one named is =
    ap (λ b. if b then Some (same_thing name new first) else thing_named other (set_thing name new things)) (set_by name other new first (bytes_eq first.name name) refl named)
    ∙ set_found name other new first one (bytes_eq first.name name) (bytes_eq first.name other) refl refl (thing_named other things) (thing_named other (set_thing name new things)) is
    (found_set name other new things one named)

-- and what was found there before
was_found : (name other : List ℕ) (new first one : CThing) (here : Bool) → (few many : Option CThing) → (if here then Some (same_thing name new first) else many) ≡ Some one
    → (many ≡ Some one → (was : CThing) × (few ≡ Some was) × (same_thing name new was ≡ one)) → (was : CThing) × ((if here then Some first else few) ≡ Some was) × (same_thing name new was ≡ one)
was_found name other new first one true few many is later = (first, refl, cc)
was_found name other new first one false few many is later = later is

pub found_before : (name other : List ℕ) (new : CThing) (things : List CThing) (one : CThing) → bytes_eq new.name other ≡ bytes_eq name other
    → thing_named other (set_thing name new things) ≡ Some one → (was : CThing) × (thing_named other things ≡ Some was) × (same_thing name new was ≡ one)
found_before name other new [] one named is = absurd cc
found_before name other new (first ∷ things) one named is =
    was_found name other new first one (bytes_eq first.name other) (thing_named other things) (thing_named other (set_thing name new things))
    (ap (λ b. if b then Some (same_thing name new first) else thing_named other (set_thing name new things)) (sym (set_by name other new first (bytes_eq first.name name) refl named)) ∙ is)
    (found_before name other new things one named)

-- what is found has the name
named_by : (name : List ℕ) (first : CThing) (others : Option CThing) (one : CThing) (same : Bool) → bytes_eq first.name name ≡ same → (if same then Some first else others) ≡ Some one
    → (others ≡ Some one → one.name ≡ name) → one.name ≡ name
named_by name first others one true e is later = let is_first : first ≡ one = cc in subst (λ (x : CThing). x.name ≡ name) is_first ((bytes_eq-Decides first.name name).0 e)
named_by name first others one false e is later = later is

pub has_name : (name : List ℕ) (things : List CThing) (one : CThing) → thing_named name things ≡ Some one → one.name ≡ name
has_name name [] one is = absurd cc
has_name name (first ∷ things) one is = named_by name first (thing_named name things) one (bytes_eq first.name name) refl is (has_name name things one)
