-- The typed unit at its end, as `Declare` says it, and the order of its objects (ISO C99, 6.9.2).
use Rattle.std.proofs.Common.{◌≡◌, inl, inr, ℕ, ◌==◌, nat_le, Bool, true, false, not, ◌&&◌, if◌then◌else◌, List, [], ◌∷◌, ◌++◌, map, Option, None, Some, is_some, is_none, find, refl, sym, ap, ◌∙◌, arith}
use Rattle.std.proofs.lemmas.Bool.Decides.{nat_tests}
use Rattle.cx_core.specs.Trees.{CTyForm, array, form_of_type, CPuts, no_puts, CObject, COuter, CMention, CUnit}
use Rattle.cx_core.specs.Typing.{object_with}
use Rattle.cx_rules.specs.Declare.{thing_named, final_type, order_of, unit_of}
use Rattle.cx_rules.specs.Scope.{CThing, CScope}
use Rattle.cx_typed.proofs.Same.{number_is}
use Rattle.cx_typed.specs.Scopes.{object_made}
use Rattle.cx_typed_files.proofs.EndLists.{Each, IsAmong, AreApart, each_more, each_among, find_among}
use Rattle.cx_typed_units.specs.Rest.{is_defining}

-- ---- as `Declare` says it

abbrev pub final_puts : CThing → CObject → Option CPuts
final_puts thing one = if is_some thing.tentative && is_none one.puts then Some no_puts else one.puts

abbrev pub final_as : CObject → Option CThing → CObject
final_as one None = one
final_as one (Some thing) = if thing.is_defined then one else record one { type = final_type thing; puts = final_puts thing one }

abbrev pub names_object : ℕ → CThing → Bool
names_object number thing = not thing.is_function && thing.number == number

abbrev pub final_object : List CThing → CObject → CObject
final_object things one = final_as one (find (names_object one.object) things)

abbrev pub put_object : CObject → List CObject → List CObject
put_object one [] = one ∷ []
put_object one (first ∷ others) = if nat_le one.object first.object then one ∷ first ∷ others else first ∷ put_object one others

abbrev pub in_number_order : List CObject → List CObject
in_number_order [] = []
in_number_order (one ∷ others) = put_object one (in_number_order others)

abbrev pub outers_of : List CThing → List COuter
outers_of [] = []
outers_of (one ∷ others) =
    if one.is_function && not one.is_defined
    then record { function = one.number; name = one.name; linkage = one.linkage; type = one.type } ∷ outers_of others
    else outers_of others

abbrev pub has_no_length : CTyForm → Bool
has_no_length (array element None) = true
has_no_length _ = false

abbrev pub ends_with_one_element : CThing → Bool
ends_with_one_element one = is_some one.tentative && (not one.is_defined && has_no_length (form_of_type one.type))

abbrev pub final_mention_by : CMention → Option CThing → CMention
final_mention_by one None = one
final_mention_by one (Some thing) = if ends_with_one_element thing then record one { type = final_type thing } else one

abbrev pub final_mention : List CThing → CMention → CMention
final_mention things one = if is_defining one.does then final_mention_by one (thing_named one.name things) else one

-- its objects, before they are put in order
abbrev pub all_objects : CScope → List CObject
all_objects scope = map (final_object scope.things) scope.objects ++ map (object_made scope.unit) scope.literals

abbrev pub unit_at : CScope → CUnit
unit_at scope = record {
  types = scope.types;
  objects = in_number_order (all_objects scope);
  functions = scope.functions;
  externals = outers_of scope.things;
  mentions = map (final_mention scope.things) scope.mentions;
  order = order_of scope;
}

pub unit_is : (scope : CScope) → unit_of scope ≡ unit_at scope
unfolding unit_of
unit_is scope = refl

-- ---- objects in the order of their numbers

abbrev pub same_object : CObject → CObject → Bool
same_object one other = one.object == other.object

pub turned : (one other : ℕ) → (one == other) ≡ false → (other == one) ≡ false
turned one other is = grind (arith, nat_tests, is)

pub itself : (one other : ℕ) → one ≡ other → (one == other) ≡ true
itself one other same = grind (arith, nat_tests)

module _ (P : CObject → Type 0) where
  each_put : (one : CObject) (xs : List CObject) → P one → Each P xs → Each P (put_object one xs)
  each_put one [] held each = (held, tt)
  each_put one (first ∷ others) held each = by_test (nat_le one.object first.object) (each_put one others held each.1)
    where
      by_test : (b : Bool) → Each P (put_object one others) → Each P (if b then one ∷ first ∷ others else first ∷ put_object one others)
      by_test true rest = (held, each)
      by_test false rest = (each.0, rest)

  pub each_ordered : (xs : List CObject) → Each P xs → Each P (in_number_order xs)
  each_ordered [] each = tt
  each_ordered (one ∷ others) each = each_put one (in_number_order others) each.0 (each_ordered others each.1)

among_put : (x one : CObject) (xs : List CObject) → IsAmong x (one ∷ xs) → IsAmong x (put_object one xs)
among_put x one [] is = is
among_put x one (first ∷ others) is = by_test (nat_le one.object first.object) is (λ rest. among_put x one others rest)
  where
    by_test : (b : Bool) → IsAmong x (one ∷ first ∷ others) → (IsAmong x (one ∷ others) → IsAmong x (put_object one others))
        → IsAmong x (if b then one ∷ first ∷ others else first ∷ put_object one others)
    by_test true is rest = is
    by_test false (inl same) rest = inr (rest (inl same))
    by_test false (inr (inl same)) rest = inl same
    by_test false (inr (inr more)) rest = inr (rest (inr more))

pub among_ordered : (x : CObject) (xs : List CObject) → IsAmong x xs → IsAmong x (in_number_order xs)
among_ordered x [] is = is
among_ordered x (one ∷ others) (inl same) = among_put x one (in_number_order others) (inl same)
among_ordered x (one ∷ others) (inr more) = among_put x one (in_number_order others) (inr (among_ordered x others more))

apart_put : (one : CObject) (xs : List CObject) → Each (λ y. same_object one y ≡ false) xs → AreApart same_object xs → AreApart same_object (put_object one xs)
apart_put one [] other held = (tt, tt)
apart_put one (first ∷ others) other held = by_test (nat_le one.object first.object) (apart_put one others other.1 held.1)
  where
    by_test : (b : Bool) → AreApart same_object (put_object one others) → AreApart same_object (if b then one ∷ first ∷ others else first ∷ put_object one others)
    by_test true rest = (other, held)
    by_test false rest = (each_put (λ y. same_object first y ≡ false) one others (turned one.object first.object other.0) held.0, rest)

pub apart_ordered : (xs : List CObject) → AreApart same_object xs → AreApart same_object (in_number_order xs)
apart_ordered [] held = tt
apart_ordered (one ∷ others) held = apart_put one (in_number_order others) (each_ordered (λ y. same_object one y ≡ false) others held.0) (apart_ordered others held.1)

-- ---- an object is found by its number

only_one : (x : CObject) (xs : List CObject) → AreApart same_object xs → IsAmong x xs → Each (λ y. (y.object == x.object) ≡ true → y ≡ x) xs
only_one x [] held is = tt
only_one x (y ∷ xs) held (inl same) = (
  λ passes. same,
  each_more (λ z. same_object y z ≡ false) (λ z. (z.object == x.object) ≡ true → z ≡ x) xs
      (λ z differs passes. absurd (let h : z.object ≡ x.object = number_is z.object x.object passes in let k : (y.object == z.object) ≡ true = itself y.object z.object (ap (λ (o : CObject). o.object) same ∙ sym h) in let c : true ≡ false = sym k ∙ differs in cc)) held.0,
)
only_one x (y ∷ xs) held (inr more) = (
  λ passes. absurd (let h : same_object y x ≡ false = each_among (λ z. same_object y z ≡ false) xs x held.0 more in let c : true ≡ false = sym passes ∙ h in cc),
  only_one x xs held.1 more,
)

pub found_object : (x : CObject) (xs : List CObject) → AreApart same_object xs → IsAmong x xs → object_with x.object (in_number_order xs) ≡ Some x
found_object x xs held is =
    find_among (λ one. one.object == x.object) (in_number_order xs) x (among_ordered x xs is) (itself x.object x.object refl)
    (only_one x (in_number_order xs) (apart_ordered xs held) (among_ordered x xs is))
