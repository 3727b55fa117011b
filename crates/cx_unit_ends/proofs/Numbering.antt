-- Where the object of a number stands among what has linkage.
use Rattle.std.proofs.Common.{arith, ◌≡◌, refl, sym, ap, ◌∙◌, ℕ, suc, ◌+◌, ◌==◌, ◌&&◌, ◌<◌, Bool, true, false, not, cond, if◌then◌else◌, List, [], ◌∷◌, map, drop, length, Option, None, Some, Bor, option_map, find, slice_get, subst}
use Rattle.std.proofs.lemmas.Option.{slice_get-map}
use Rattle.std.specs.Option.{option_copied}
use Rattle.cx_rules.specs.Scope.{CThing}
use Rattle.cx_scope.proofs.Places.{find_is}
use Rattle.cx_scope.specs.Places.{first_from, get_found}
use Rattle.cx_scope.specs.Views.{view_thing}
use Rattle.cx_scope.specs.declared.thing.Thing.{Thing}
use Rattle.cx_unit_ends.specs.Ends.{names_object}

by_test : (is_function same : Bool) (place found new : Option ℕ) → is_function ≡ false → new ≡ cond same place found → new ≡ (if not is_function && same then place else found)
by_test true same place found new other e = absurd cc
by_test false true place found new other e = e
by_test false false place found new other e = e

pub noted : (thing : CThing) (number place : ℕ) (found new : Option ℕ) → thing.is_function ≡ false → new ≡ cond (thing.number == number) (Some place) found
    → new ≡ (if names_object number thing then Some place else found)
noted thing number place found new other e = by_test thing.is_function (thing.number == number) (Some place) found new other e

by_function : (is_function same : Bool) (place found : Option ℕ) → is_function ≡ true → found ≡ (if not is_function && same then place else found)
by_function true same place found is = refl
by_function false same place found is = absurd cc

pub passed_over : (thing : CThing) (number place : ℕ) (found : Option ℕ) → thing.is_function ≡ true → found ≡ (if names_object number thing then Some place else found)
passed_over thing number place found is = by_function thing.is_function (thing.number == number) (Some place) found is

-- one more in front of those that were noted
pub noted_more : (number left before : ℕ) (things : List Thing) (one : Thing) (found new : Option ℕ) → drop left things ≡ one ∷ drop before things → before ≡ suc left
    → found ≡ first_from before (names_object number) (map view_thing (drop before things)) → new ≡ (if names_object number (view_thing one) then Some left else found)
    → new ≡ first_from left (names_object number) (map view_thing (drop left things))
noted_more number left before things one found new split next held e =
    e ∙ ap (λ other. if names_object number (view_thing one) then Some left else other) (held ∙ ap (λ n. first_from n (names_object number) (map view_thing (drop before things))) next)
    ∙ sym (ap (λ all. first_from left (names_object number) (map view_thing all)) split)

-- what stands at the place of a number is the first of it
pub found_thing : (number : ℕ) (things : List Thing) (place : Option ℕ) → place ≡ first_from 0 (names_object number) (map view_thing things)
    → find (names_object number) (map view_thing things) ≡ get_found place (map view_thing things)
found_thing number things place e = find_is (names_object number) (map view_thing things) ∙ ap (λ o. get_found o (map view_thing things)) (sym e)

pub viewed : (got : Option (Bor Thing)) → option_map (λ one. view_thing one.now) got ≡ option_map view_thing (option_copied got)
viewed None = refl
viewed (Some one) = refl
