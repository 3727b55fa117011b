-- What is known of two types, of members and of parts stays while the types of a unit grow.
use Rattle.std.proofs.Common.{◌≡◌, ℕ, ◌*◌, ◌==◌, nat_lt, Bool, true, false, ◌||◌, ◌&&◌, if◌then◌else◌, List, [], ◌∷◌, Option, None, Some, option_map, slice_get, refl, sym, ap, ◌∙◌}
use Rattle.std.specs.Prelude.{IsSome}
use Rattle.cr_base.specs.declared.layout.Laid.{Laid}
use Rattle.cr_base.specs.declared.layout.Spot.{Spot}
use Rattle.cx_core.specs.declared.ty.Basic.{Basic}
use Rattle.cx_rules.specs.Meanings.{members_of}
use Rattle.cx_core.specs.Compatible.{agree, forms_agree, params_agree, lists_agree, in_pairs, meet_in_basic, same_basics, enums_agree, of_two_units, are_of_two, AreCompatible}
use Rattle.cx_core.specs.Conversions.{basic_of}
use Rattle.cx_core.specs.Layouts.{CRow, row_at, extent, layouts_of}
use Rattle.cx_core.specs.Trees.{CTy, ty, CTyForm, void, basic, enum_type, pointer, array, record_type, function, CParams, unlisted, listed, CTys, no_types, more_types, CMember, CRecord, CTypes}
use Rattle.cx_core.specs.ValidTypes.{CPart, member_of, spot_of, direct_part, part_at, within, has_name, is_named_path, IsPartOf, IsMemberOf}
use Rattle.cx_layout.specs.Calls.{record_at}
use Rattle.cx_rules.specs.Types.{compatible}
use Rattle.cx_typed.proofs.Growing.{then_gives, map_gives, layouts_grow, extent_grows, basic_grows}
use Rattle.cx_typed.proofs.Placed.{then_found, map_found}
use Rattle.cx_typed.specs.Growth.{Gives, Grows, is_open, IsSettled, IsSettledForm, AreSettledParams, AreSettled}

-- ---- tests

pub both : {a b : Bool} → (a && b) ≡ true → (a ≡ true) × (b ≡ true)
both {a = true} {b = true} is = (refl, refl)
both {a = true} {b = false} is = absurd cc
both {a = false} {b = b} is = absurd cc

pub together : {a b : Bool} → a ≡ true → b ≡ true → (a && b) ≡ true
together {a = true} {b = b} first second = second
together {a = false} {b = b} first second = absurd cc

basics_stay : (first second more others : Option Basic) → Gives first more → Gives second others → same_basics first second ≡ true → same_basics more others ≡ true
basics_stay None second more others gives also is = absurd cc
basics_stay (Some one) None more others gives also is = absurd cc
basics_stay (Some one) (Some other) more others gives also is =
    ap (λ found. same_basics found others) (gives one refl) ∙ ap (same_basics (Some one)) (also other refl) ∙ is

units_stay : (first second more others : Option ℕ) → Gives first more → Gives second others → are_of_two first second ≡ true → are_of_two more others ≡ true
units_stay None second more others gives also is = absurd cc
units_stay (Some one) None more others gives also is = absurd cc
units_stay (Some one) (Some other) more others gives also is =
    ap (λ found. are_of_two found others) (gives one refl) ∙ ap (are_of_two (Some one)) (also other refl) ∙ is

either_stays : (a b c : Bool) → (b ≡ true → c ≡ true) → (a || b) ≡ true → (a || c) ≡ true
either_stays true b c held is = refl
either_stays false b c held is = held is

module _ (opens : List ℕ) (before after : CTypes) (grows : Grows opens before after) where
  -- ---- compatible types

  meet_stays : (first second : CTyForm) → IsSettledForm opens first → IsSettledForm opens second
      → meet_in_basic before first second ≡ true → meet_in_basic after first second ≡ true
  meet_stays first second one other =
      basics_stay (basic_of before first) (basic_of before second) (basic_of after first) (basic_of after second)
      (basic_grows opens before after grows first one) (basic_grows opens before after grows second other)

  enums_stay : (first second : ℕ) → is_open opens first ≡ false → is_open opens second ≡ false → enums_agree before first second ≡ true → enums_agree after first second ≡ true
  enums_stay first second one other = either_stays (first == second)
      (of_two_units before.enum_units first second && meet_in_basic before (enum_type first) (enum_type second))
      (of_two_units after.enum_units first second && meet_in_basic after (enum_type first) (enum_type second))
      (λ is. together
      (units_stay (slice_get before.enum_units first) (slice_get before.enum_units second) (slice_get after.enum_units first) (slice_get after.enum_units second)
      (grows.enum_units first) (grows.enum_units second) (both is).0)
      (meet_stays (enum_type first) (enum_type second) one other (both is).1))

  mutual
    pub agree_stays : (first second : CTy) → IsSettled opens first → IsSettled opens second
        → agree before (in_pairs []) first second ≡ true → agree after (in_pairs []) first second ≡ true
    agree_stays (ty first first_const) (ty second second_const) one other is = together (both is).0 (forms_stay first second one other (both is).1)

    forms_stay : (first second : CTyForm) → IsSettledForm opens first → IsSettledForm opens second
        → forms_agree before (in_pairs []) first second ≡ true → forms_agree after (in_pairs []) first second ≡ true
    forms_stay void void one other is = is
    forms_stay (basic first) (basic second) one other is = is
    forms_stay (basic first) (enum_type second) one other is = meet_stays (basic first) (enum_type second) one other is
    forms_stay (enum_type first) (basic second) one other is = meet_stays (enum_type first) (basic second) one other is
    forms_stay (enum_type first) (enum_type second) one other is = enums_stay first second one other is
    forms_stay (pointer first) (pointer second) one other is = agree_stays first second one other is
    forms_stay (array first first_length) (array second second_length) one other is = together (both is).0 (agree_stays first second one other (both is).1)
    forms_stay (record_type first) (record_type second) one other is = is
    forms_stay (function first first_params first_more) (function second second_params second_more) one other is =
        together (agree_stays first second one.0 other.0 (both is).0)
        (params_stay first_params first_more second_params second_more one.1 other.1 (both is).1)
    forms_stay first second one other is = is

    params_stay : (first : CParams) (first_more : Bool) (second : CParams) (second_more : Bool) → AreSettledParams opens first → AreSettledParams opens second
        → params_agree before (in_pairs []) first first_more second second_more ≡ true → params_agree after (in_pairs []) first first_more second second_more ≡ true
    params_stay unlisted first_more unlisted second_more one other is = is
    params_stay unlisted first_more (listed types) second_more one other is = is
    params_stay (listed types) first_more unlisted second_more one other is = is
    params_stay (listed first) first_more (listed second) second_more one other is = together (both is).0 (lists_stay first second one other (both is).1)

    lists_stay : (first second : CTys) → AreSettled opens first → AreSettled opens second
        → lists_agree before (in_pairs []) first second ≡ true → lists_agree after (in_pairs []) first second ≡ true
    lists_stay no_types no_types one other is = is
    lists_stay (more_types (ty first first_const) firsts) (more_types (ty second second_const) seconds) one other is =
        together (forms_stay first second one.0 other.0 (both is).0) (lists_stay firsts seconds one.1 other.1 (both is).1)
    lists_stay no_types (more_types second seconds) one other is = is
    lists_stay (more_types (ty first first_const) firsts) no_types one other is = is

  -- compatible types of a unit are compatible in whatever it becomes
  pub compatible_stays : (first second : CTy) → IsSettled opens first → IsSettled opens second → compatible before first second ≡ true → AreCompatible after first second
  compatible_stays first second one other is = record { pairs = []; good = refl; meet = agree_stays first second one other is }

  -- ---- members and parts

  members_stay : (few many : Option CRecord) (index : ℕ) → Gives few many → Gives (slice_get (members_of few) index) (slice_get (members_of many) index)
  members_stay None many index gives one is = absurd cc
  members_stay (Some record_is) many index gives one is = ap (λ found. slice_get (members_of found) index) (gives record_is refl) ∙ is

  pub member_stays : (form : CTyForm) (index : ℕ) → Gives (member_of before form index) (member_of after form index)
  member_stays (record_type number) index = members_stay (record_at before number) (record_at after number) index (grows.records number)
  member_stays form index = λ one is. absurd cc

  abbrev spots_in : Option CRow → List Spot
  spots_in None = []
  spots_in (Some row) = row.spots

  spots_stay : (few many : Option CRow) (index : ℕ) → Gives few many → Gives (slice_get (spots_in few) index) (slice_get (spots_in many) index)
  spots_stay None many index gives one is = absurd cc
  spots_stay (Some row) many index gives one is = ap (λ found. slice_get (spots_in found) index) (gives row refl) ∙ is

  pub spot_stays : (form : CTyForm) (index : ℕ) → Gives (spot_of before form index) (spot_of after form index)
  spot_stays (record_type number) index =
      spots_stay (row_at (layouts_of before) number) (row_at (layouts_of after) number) index (layouts_grow opens before after grows number)
  spot_stays form index = λ one is. absurd cc

  abbrev part_as : Option CMember → Option Spot → Option CPart
  part_as (Some one) (Some spot) = Some (record { spot = spot; type = one.type })
  part_as (Some one) None = None
  part_as None spot = None

  parts_stay : (one other : Option CMember) (spot place : Option Spot) → Gives one other → Gives spot place → Gives (part_as one spot) (part_as other place)
  parts_stay None other spot place gives also part is = absurd cc
  parts_stay (Some one) other None place gives also part is = absurd cc
  parts_stay (Some one) other (Some spot) place gives also part is =
      ap (λ found. part_as found place) (gives one refl) ∙ ap (part_as (Some one)) (also spot refl) ∙ is

  if_stays : {X : Type 0} (test : Bool) (few many : Option X) → Gives few many → Gives (if test then few else None) (if test then many else None)
  if_stays true few many gives = gives
  if_stays false few many gives = λ one is. is

  abbrev has_index : Option ℕ → ℕ → Bool
  has_index None index = false
  has_index (Some length) index = nat_lt index length

  abbrev element_at_is : CTy → ℕ → Laid → CPart
  element_at_is element index laid = record { spot = record { byte = index * laid.size; bit = 0; width = 0 }; type = element }

  direct_stays : (index : ℕ) (form : CTyForm) → Gives (direct_part before index form) (direct_part after index form)
  direct_stays index (array element length) =
      if_stays (has_index length index) (option_map (element_at_is element index) (extent (layouts_of before) element)) (option_map (element_at_is element index) (extent (layouts_of after) element))
      (map_gives (element_at_is element index) (extent (layouts_of before) element) (extent (layouts_of after) element) (extent_grows opens before after grows element))
  direct_stays index (record_type number) =
      parts_stay (member_of before (record_type number) index) (member_of after (record_type number) index)
      (spot_of before (record_type number) index) (spot_of after (record_type number) index)
      (member_stays (record_type number) index) (spot_stays (record_type number) index)
  direct_stays index form = λ one is. absurd cc

  pub part_stays : (path : List ℕ) (type : CTy) → Gives (part_at before path type) (part_at after path type)
  part_stays [] type = λ part is. is
  part_stays (index ∷ path) (ty form is_const) =
      then_gives (λ outer. option_map (within outer) (part_at before path outer.type)) (λ outer. option_map (within outer) (part_at after path outer.type))
      (direct_part before index form) (direct_part after index form) (direct_stays index form)
      (λ outer. map_gives (within outer) (part_at before path outer.type) (part_at after path outer.type) (part_stays path outer.type))

  -- ---- named members on the way to a part

  pub name_stays : (few many : Option CMember) → Gives few many → IsSome few → has_name few ≡ true → has_name many ≡ true
  name_stays None many gives there is = absurd cc
  name_stays (Some one) many gives there is = ap has_name (gives one refl) ∙ is

  part_member : (one : Option CMember) (spot : Option Spot) (part : CPart) → part_as one spot ≡ Some part → IsSome one
  part_member None spot part is = absurd cc
  part_member (Some one) spot part is = refl

  direct_named : (index : ℕ) (form : CTyForm) (part : CPart) → direct_part before index form ≡ Some part → has_name (member_of before form index) ≡ true → has_name (member_of after form index) ≡ true
  direct_named index (record_type number) part there is =
      name_stays (member_of before (record_type number) index) (member_of after (record_type number) index) (member_stays (record_type number) index)
      (part_member (member_of before (record_type number) index) (spot_of before (record_type number) index) part there) is
  direct_named index form part there is = is

  abbrev is_named_rest : CTypes → List ℕ → Option CPart → Bool
  is_named_rest types path None = true
  is_named_rest types path (Some part) = is_named_path types path part.type

  pub named_stays : (path : List ℕ) (type : CTy) (part : CPart) → part_at before path type ≡ Some part → is_named_path before path type ≡ true → is_named_path after path type ≡ true
  named_stays [] type part there is = refl
  named_stays (index ∷ path) (ty form is_const) part there is =
      let outer = then_found (λ outer. option_map (within outer) (part_at before path outer.type)) (direct_part before index form) part there in
      let inner = map_found (within outer.0) (part_at before path outer.0.type) part outer.2 in
      let rest : is_named_path before path outer.0.type ≡ true = sym (ap (is_named_rest before path) outer.1) ∙ (both is).1 in
      together (direct_named index form outer.0 outer.1 (both is).0)
      (ap (is_named_rest after path) (direct_stays index form outer.0 outer.1) ∙ named_stays path outer.0.type inner.0 inner.1 rest)

  pub is_part_stays : (holder : CTy) (spot : Spot) (type : CTy) → IsPartOf before holder spot type → IsPartOf after holder spot type
  is_part_stays holder spot type held = record {
    path = held.path;
    leads = part_stays held.path holder _ held.leads;
    named = named_stays held.path holder _ held.leads held.named;
  }

  pub is_member_stays : (holder : CTy) (spot : Spot) (type : CTy) → IsMemberOf before holder spot type → IsMemberOf after holder spot type
  is_member_stays (ty form is_const) spot type held = record {
    index = held.index;
    one = held.one;
    member_is = member_stays form held.index held.one held.member_is;
    named = held.named;
    spot_is = spot_stays form held.index spot held.spot_is;
    type_is = held.type_is;
  }
