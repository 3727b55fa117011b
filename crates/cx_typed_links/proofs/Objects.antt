-- Each object of a program of typed units is one of a unit, and its number is that of no other (ISO C99, 6.2.2p2).
use Rattle.std.proofs.Common.{◌≡◌, ℕ, zero, suc, ◌+◌, ◌==◌, Bool, true, false, ◌&&◌, if◌then◌else◌, List, [], ◌∷◌, All, Option, None, Some, slice_get, refl, sym, ap, ◌∙◌, subst}
use Rattle.std.specs.Prelude.{is_some}
use Rattle.std.specs.List.{find}
use Rattle.std.proofs.lemmas.List.Elements.{All-nil, All-cons, All-head, All-tail, All-append}
use Rattle.std.proofs.lemmas.Slice.Eq.{bytes_eq-Decides}
use Rattle.cx_core.specs.Linked.{is_external}
use Rattle.cx_core.specs.Trees.{CObject, CUnit}
use Rattle.cx_core.specs.Typing.{object_with}
use Rattle.cx_links.specs.Program.{CFound, first_unit, or_other, has_name, is_object_named, declared_object, defined_object, object_of_name, counts_before, object_at, object_by, object_number, numbers_of, from_each, is_in, there, external_object, objects_from, linked}
use Rattle.cx_renumber.specs.Numbers.{counts_of, object_there}
use Rattle.cx_typed_links.proofs.Compatible.{both}
use Rattle.cx_typed_links.proofs.Each.{all_given}
use Rattle.cx_typed_links.proofs.Joined.{rows_before, none_on}
use Rattle.cx_typed_links.proofs.Places.{IsFirstIn, first_is, found_holds, found_alone, below_all, same_found, same_number, units_apart}
use Rattle.cx_typed_links.specs.Laws.{AreTypedUnits}

abbrev pub objects_in_unit : CUnit → ℕ
objects_in_unit one = (counts_of one).objects

pub objects_before : (count : ℕ) (units : List CUnit) → rows_before objects_in_unit count units ≡ (counts_before count units).objects
objects_before zero units = refl
objects_before (suc count) [] = refl
objects_before (suc count) (one ∷ others) = ap (λ n. objects_in_unit one + n) (objects_before count others)

abbrev pub number_of : CObject → ℕ
number_of known = known.object

-- what is external and has a name, in the program
abbrev pub named_in : List CUnit → Option (List ℕ) → Option (CFound CObject)
named_in units None = None
named_in units (Some name) = object_of_name units name

-- an object of a unit, found there by its number
pub record IsOwnIn (units : List CUnit) (unit : ℕ) (home : CUnit) (thing : CObject) : Type 0 where
  pub unit_is : slice_get units unit ≡ Some home
  pub own : object_with thing.object home.objects ≡ Some thing

-- an object of the program is one of a unit, and has the number that such an object of the unit takes there
pub record IsOfUnit (units : List CUnit) (one : CObject) : Type 0 where
  pub unit : ℕ
  pub home : CUnit
  pub thing : CObject
  pub in_unit : IsOwnIn units unit home thing
  pub is : one ≡ object_there (numbers_of units home unit) thing
  pub number_is : object_number units home unit thing.object ≡ object_at units unit thing.object

module _ (units : List CUnit) where
  -- ---- a number tells the unit and the object

  pub same_object : (unit other : ℕ) (home home_of_other : CUnit) (thing also : CObject) → IsOwnIn units unit home thing → IsOwnIn units other home_of_other also
      → object_at units unit thing.object ≡ object_at units other also.object
      → object_there (numbers_of units home unit) thing ≡ object_there (numbers_of units home_of_other other) also
  same_object unit other home home_of_other thing also first second same =
      let place : rows_before objects_in_unit unit units + thing.object ≡ rows_before objects_in_unit other units + also.object =
      ap (λ n. n + thing.object) (objects_before unit units) ∙ same ∙ sym (ap (λ n. n + also.object) (objects_before other units)) in
      let apart = units_apart objects_in_unit units unit other home home_of_other thing.object also.object
      first.unit_is (below_all number_of home.objects thing.object thing first.own)
      second.unit_is (below_all number_of home_of_other.objects also.object also second.own) place in
      let homes : home ≡ home_of_other =
      same_found (slice_get units other) home home_of_other (subst (λ n. slice_get units n ≡ Some home) apart.0 first.unit_is) second.unit_is in
      let things : thing ≡ also =
      same_found (object_with also.object home_of_other.objects) thing also
      (subst (λ n. object_with n home_of_other.objects ≡ Some thing) apart.1
      (subst (λ (one : CUnit). object_with thing.object one.objects ≡ Some thing) homes first.own)) second.own in
      ap (λ n. object_there (numbers_of units home n) thing) apart.0
      ∙ ap (λ one. object_there (numbers_of units one other) thing) homes
      ∙ ap (λ one. object_there (numbers_of units home_of_other other) one) things

  -- ---- the number of an object of a unit

  pub own_number : (unit : ℕ) (home : CUnit) (thing : CObject) → object_with thing.object home.objects ≡ Some thing → is_external thing.linkage ≡ false
      → object_number units home unit thing.object ≡ object_at units unit thing.object
  own_number unit home thing own not_external =
      ap (λ (found : Option CObject). elim found as (λ _. ℕ) [
        | None ↦ object_at units unit thing.object
        | Some one ↦ if is_external one.linkage then object_by units (object_at units unit thing.object) (named_in units one.name) else object_at units unit thing.object
      ]) own
      ∙ ap (λ (external : Bool). if external then object_by units (object_at units unit thing.object) (named_in units thing.name) else object_at units unit thing.object) not_external

  pub external_number : (unit : ℕ) (home : CUnit) (thing : CObject) → object_with thing.object home.objects ≡ Some thing → is_external thing.linkage ≡ true
      → object_number units home unit thing.object ≡ object_by units (object_at units unit thing.object) (named_in units thing.name)
  external_number unit home thing own external =
      ap (λ (found : Option CObject). elim found as (λ _. ℕ) [
        | None ↦ object_at units unit thing.object
        | Some one ↦ if is_external one.linkage then object_by units (object_at units unit thing.object) (named_in units one.name) else object_at units unit thing.object
      ]) own
      ∙ ap (λ (holds : Bool). if holds then object_by units (object_at units unit thing.object) (named_in units thing.name) else object_at units unit thing.object) external

module _ (units : List CUnit) (typed : AreTypedUnits units) where
  abbrev Of : CObject → Type 0
  Of one = IsOfUnit units one

  pub all_own : (unit : ℕ) (one : CUnit) → slice_get units unit ≡ Some one → All (λ known. object_with known.object one.objects ≡ Some known) one.objects
  all_own unit one is = found_alone number_of one.objects (typed unit one is).numbers.objects_differ

  -- ---- what stands for an external name

  pub name_by : (name : List ℕ) (found : Option (List ℕ)) → has_name name found ≡ true → found ≡ Some name
  name_by name None is = absurd cc
  name_by name (Some other) is = ap (λ text. Some text) (sym ((bytes_eq-Decides name other).0 is))

  -- an object of a unit with an external name
  pub record IsNamedThing (name : List ℕ) (found : CFound CObject) : Type 0 where
    pub own : IsOwnIn units found.unit found.home found.thing
    pub external : is_external found.thing.linkage ≡ true
    pub name_is : found.thing.name ≡ Some name

  named_by : (name : List ℕ) (found : CFound CObject) (test : CObject → Bool) → ((known : CObject) → test known ≡ true → is_object_named name known ≡ true)
      → IsFirstIn (λ one. find test one.objects) 0 units found → IsNamedThing name found
  named_by name found test goes first =
      let unit_is : slice_get units found.unit ≡ Some found.home =
      subst (λ n. slice_get units n ≡ Some found.home) (sym (first.unit_is ∙ none_on first.at)) first.home_is in
      let held = found_holds (λ known. object_with known.object found.home.objects ≡ Some known) test found.home.objects found.thing
      (all_own found.unit found.home unit_is) first.thing_is in
      let named = both (goes found.thing held.1) in
      record { own = record { unit_is = unit_is; own = held.0 }; external = named.0; name_is = name_by name found.thing.name named.1 }

  named_either : (name : List ℕ) (found : CFound CObject) (first : Option (CFound CObject)) → first_unit (defined_object name) 0 units ≡ first
      → or_other first (first_unit (declared_object name) 0 units) ≡ Some found → IsNamedThing name found
  named_either name found None is there =
      named_by name found (is_object_named name) (λ known passes. passes) (first_is (declared_object name) 0 units found there)
  named_either name found (Some one) is there =
      named_by name found (λ known. is_object_named name known && is_some known.puts) (λ known passes. (both passes).0)
      (first_is (defined_object name) 0 units found (is ∙ there))

  pub named_thing : (name : List ℕ) (found : CFound CObject) → object_of_name units name ≡ Some found → IsNamedThing name found
  named_thing name found is = named_either name found (first_unit (defined_object name) 0 units) refl is

  -- and its number in the program
  pub external_place : (name : List ℕ) (found : CFound CObject) → object_of_name units name ≡ Some found
      → object_number units found.home found.unit found.thing.object ≡ object_at units found.unit found.thing.object
  external_place name found is =
      let named = named_thing name found is in
      external_number units found.unit found.home found.thing named.own.own named.external
      ∙ ap (λ name. object_by units (object_at units found.unit found.thing.object) (named_in units name)) named.name_is
      ∙ ap (object_by units (object_at units found.unit found.thing.object)) is

  pub external_of : (name : List ℕ) (found : CFound CObject) → object_of_name units name ≡ Some found → Of (object_there (numbers_of units found.home found.unit) found.thing)
  external_of name found is = record {
    unit = found.unit;
    home = found.home;
    thing = found.thing;
    in_unit = (named_thing name found is).own;
    is = refl;
    number_is = external_place name found is;
  }

  -- ---- all objects of the program

  there_of : (name : List ℕ) (found : Option (CFound CObject)) → object_of_name units name ≡ found → All Of (there units found)
  there_of name None is = All-nil Of
  there_of name (Some found) is =
      All-cons Of (object_there (numbers_of units found.home found.unit) found.thing) [] (external_of name found is) (All-nil Of)

  all_if : (test : Bool) (xs : List CObject) → All Of xs → All Of (if test then xs else [])
  all_if true xs all = all
  all_if false xs all = All-nil Of

  external_objects_of : (unit : ℕ) (name : Option (List ℕ)) → All Of (external_object units unit name)
  external_objects_of unit None = All-nil Of
  external_objects_of unit (Some name) =
      all_if (is_in unit (object_of_name units name)) (there units (object_of_name units name))
      (there_of name (object_of_name units name) refl)

  module _ (unit : ℕ) (one : CUnit) (is : slice_get units unit ≡ Some one) where
    part_of : (known : CObject) → object_with known.object one.objects ≡ Some known → (external : Bool) → is_external known.linkage ≡ external
        → All Of (if external then external_object units unit known.name else object_there (numbers_of units one unit) known ∷ [])
    part_of known own true external = external_objects_of unit known.name
    part_of known own false external =
        All-cons Of (object_there (numbers_of units one unit) known) []
        (record {
          unit = unit;
          home = one;
          thing = known;
          in_unit = record { unit_is = is; own = own };
          is = refl;
          number_is = own_number units unit one known own external;
        }) (All-nil Of)

    pub unit_objects_of : (objects : List CObject) → All (λ known. object_with known.object one.objects ≡ Some known) objects → All Of (objects_from units one unit objects)
    unit_objects_of [] all = All-nil Of
    unit_objects_of (known ∷ others) all =
        All-append Of (if is_external known.linkage then external_object units unit known.name else object_there (numbers_of units one unit) known ∷ [])
        (objects_from units one unit others)
        (part_of known (All-head (λ other. object_with other.object one.objects ≡ Some other) known others all) (is_external known.linkage) refl)
        (unit_objects_of others (All-tail (λ other. object_with other.object one.objects ≡ Some other) known others all))

  abbrev given : CUnit → ℕ → List CObject
  given one unit = objects_from units one unit one.objects

  pub linked_objects : (linked units).objects ≡ from_each given 0 units
  unfolding linked
  linked_objects = refl

  pub program_objects : All Of (linked units).objects
  program_objects = subst (All Of) (sym linked_objects) (all_given Of given units (λ unit one is. unit_objects_of unit one is one.objects (all_own unit one is)))

  -- what has the number of an object of a unit is that object, renumbered
  pub object_at_number : (unit : ℕ) (home : CUnit) (thing : CObject) → IsOwnIn units unit home thing → (found : CObject)
      → object_with (object_at units unit thing.object) (linked units).objects ≡ Some found → found ≡ object_there (numbers_of units home unit) thing
  object_at_number unit home thing own found is =
      let held = found_holds Of (λ one. one.object == object_at units unit thing.object) (linked units).objects found program_objects is in
      let of = held.0 in
      let place : object_at units of.unit of.thing.object ≡ object_at units unit thing.object =
      sym of.number_is ∙ sym (ap number_of of.is) ∙ same_number found.object (object_at units unit thing.object) held.1 in
      of.is ∙ same_object units of.unit unit of.home home of.thing thing of.in_unit own place
