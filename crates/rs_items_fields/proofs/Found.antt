-- The field that is found by its byte and its type.
use Rattle.std.proofs.Common.{◌≡◌, ℕ, ◌==◌, Bool, true, false, ◌||◌, List, [], ◌∷◌, ◌++◌, map, Option, Some, is_some, All, if◌then◌else◌, refl, ap, ◌∙◌, subst, arith}
use Rattle.std.specs.List.{AllByRecursion, list_any}
use Rattle.std.proofs.lemmas.Bool.Decides.{nat_tests}
use Rattle.std.proofs.lemmas.List.Elements.{All-from_recursion, recursion_from_All}
use Rattle.cr_base.specs.Layout.{no_front}
use Rattle.cr_base.specs.declared.layout.Laid.{Laid}
use Rattle.cr_base.specs.declared.layout.Spot.{Spot}
use Rattle.cx_core.specs.Trees.{CRecord}
use Rattle.lift_forms.proofs.SameTypes.{both, both_are_true, same_itself, type_is}
use Rattle.rs_items.specs.Known.{Knows, MemberField}
use Rattle.rs_items.specs.Records.{fields_walk, placed_members}
use Rattle.rs_items_fields.specs.Fields.{name_at, stands_at}
use Rattle.rs_items_fields.specs.LawsFields.{FieldsFound, HasName}
use Rattle.rs_items_rules.proofs.Places.{all_places}
use Rattle.rs_items_rules.proofs.Rows.{fields_stand}
use Rattle.rs_items_rules.specs.LawsRecords.{StandsIn, place_of, plain_places}
use Rattle.rs_mean.specs.Layout.{FieldPlace, field_behind}
use Rattle.rs_mean.specs.Scalars.{same_type}
use Rattle.rs_text.specs.Tree.{FieldTree, Ty}

-- ---- what is found stands there

-- a field that stands at a byte with a type has these
place_is : (byte : ℕ) (type : Ty) (one : MemberField) → stands_at byte type one ≡ true → place_of one ≡ record { ty = type; byte = byte }
place_is byte type one is =
    let test : (one.byte == byte) ≡ true = (both is).0 in
    let same : one.byte ≡ byte = grind (arith, nat_tests, test) in
    ap (λ (t : Ty). record { ty = t; byte = one.byte }) (type_is one.ty type (both is).1) ∙ ap (λ (b : ℕ). record { ty = type; byte = b }) same

module _ (layout : Ty → Option Laid) (is_union : Bool) (fields : List FieldTree) (byte : ℕ) (type : Ty) (name : List ℕ) where
  abbrev IsThere : Type 0
  IsThere = field_behind layout name (Some (no_front is_union)) fields ≡ Some (record { ty = type; byte = byte })

  there_by : (one : MemberField) (others : List MemberField) → StandsIn layout is_union fields one → (name_at byte type others ≡ Some name → IsThere)
      → (test : Bool) → stands_at byte type one ≡ test → (if test then Some one.name else name_at byte type others) ≡ Some name → IsThere
  there_by one others stand later true at is =
      let same : one.name ≡ name = cc in
      subst (λ (n : List ℕ). field_behind layout n (Some (no_front is_union)) fields ≡ Some (record { ty = type; byte = byte })) same
      (stand ∙ ap (λ (place : FieldPlace). Some place) (place_is byte type one at))
  there_by one others stand later false at is = later is

  is_there : (members : List MemberField) → AllByRecursion (StandsIn layout is_union fields) members → name_at byte type members ≡ Some name → IsThere
  is_there [] stand is = cc
  is_there (one ∷ others) stand is = there_by one others stand.0 (λ later. is_there others stand.1 later) (stands_at byte type one) refl is

-- ---- each is found

has_by : (one : MemberField) (others : List MemberField) (place : FieldPlace) → HasName others place → (test : Bool) → is_some (if test then Some one.name else name_at place.byte place.ty others) ≡ true
has_by one others place has true = refl
has_by one others place has false = has

wider : (one : MemberField) (others : List MemberField) (places : List FieldPlace) → AllByRecursion (HasName others) places → AllByRecursion (HasName (one ∷ others)) places
wider one others [] have = tt
wider one others (place ∷ places) have = (has_by one others place have.0 (stands_at place.byte place.ty one), wider one others places have.1)

own_place : (one : MemberField) → stands_at one.byte one.ty one ≡ true
own_place one = both_are_true (one.byte == one.byte) (same_type one.ty one.ty) (grind (arith, nat_tests)) (same_itself one.ty)

each_has : (members : List MemberField) → AllByRecursion (HasName members) (map place_of members)
each_has [] = tt
each_has (one ∷ others) =
    (ap (λ test. is_some (if test then Some one.name else name_at one.byte one.ty others)) (own_place one), wider one others (map place_of others) (each_has others))

each_member : (known : Knows) (one : CRecord) (spots : List Spot) → All (HasName (fields_walk known one spots).members) (plain_places (placed_members known one.members spots))
each_member known one spots =
    let members = (fields_walk known one spots).members in
    subst (All (HasName members)) (all_places one.is_union (placed_members known one.members spots)) (All-from_recursion (HasName members) (map place_of members) (each_has members))

-- ---- the first

none_before : (a b : Bool) → (a || b) ≡ false → (a ≡ false) × (b ≡ false)
none_before true b is = cc
none_before false b is = (refl, is)

first_is : (byte : ℕ) (type : Ty) (front others : List MemberField) (one : MemberField) → list_any (stands_at byte type) front ≡ false → stands_at byte type one ≡ true
    → name_at byte type (front ++ one ∷ others) ≡ Some one.name
first_is byte type [] others one none at = ap (λ test. if test then Some one.name else name_at byte type others) at
first_is byte type (before ∷ front) others one none at =
    let known = none_before (stands_at byte type before) (list_any (stands_at byte type) front) none in
    ap (λ test. if test then Some before.name else name_at byte type (front ++ one ∷ others)) known.0 ∙ first_is byte type front others one known.1 at

pub found : FieldsFound
found = record {
  stands = λ known records layouts one row kept is short byte type name named.
      is_there _ one.is_union _ byte type name (fields_walk known one row.spots).members
      (recursion_from_All (StandsIn _ one.is_union _) (fields_walk known one row.spots).members (fields_stand known records layouts kept one row is short)) named;
  each = each_member;
  first = first_is;
}
