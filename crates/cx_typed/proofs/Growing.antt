-- What is known of a type stays while the types of its unit grow.
use Rattle.std.proofs.Common.{◌≡◌, ℕ, zero, suc, ◌+◌, ◌-◌, ◌≤◌, Bool, false, ◌||◌, List, [], ◌∷◌, Option, None, Some, option_map, slice_get, is_some, refl, sym, ap, ◌∙◌, arith, subst}
use Rattle.std.specs.Prelude.{IsSome, IfSome, ◌<◌}
use Rattle.std.specs.List.{list_any}
use Rattle.std.specs.Option.{option_and_then, option_flatten}
use Rattle.cr_base.specs.declared.layout.Laid.{Laid}
use Rattle.cr_base.specs.declared.layout.Piece.{Piece}
use Rattle.cx_core.specs.Conversions.{basic_of, basic_of_enum}
use Rattle.cx_core.specs.Layouts.{CLayouts, CRow, row_at, array_extent, whole_extent, extent, within_most, layouts_of, put_front, piece_of, pieces_of, row_of_pieces, row_of, pass, passes, completed_count}
use Rattle.cx_core.specs.Trees.{CTy, ty, CTyForm, void, basic, enum_type, pointer, array, record_type, function, CParams, unlisted, listed, CTys, no_types, more_types, CMember, CRecord, CTypes}
use Rattle.cx_core.specs.ValidTypes.{IsTypeIn, IsFormIn, AreParamsIn, AreTypesIn, IsArrayOf, IsComplete, const_in, any_const, has_const, holds_const}
use Rattle.cx_layout.proofs.Builds.{layouts_are}
use Rattle.cx_layout.proofs.Passes.{Extends, extent_more, row_more, row_at-pass, passes_none, passes_after}
use Rattle.cx_layout.specs.Calls.{record_at}
use Rattle.cx_typed.specs.Growth.{Gives, Grows, IsSettledForm, GrowthKeepsTypes}

-- ---- options

pub then_gives : {X Y : Type 0} (f g : X → Option Y) (few many : Option X) → Gives few many → ((x : X) → Gives (f x) (g x)) → Gives (option_and_then f few) (option_and_then g many)
then_gives f g None many more each y is = absurd cc
then_gives f g (Some x) many more each y is = ap (option_and_then g) (more x refl) ∙ each x y is

pub map_gives : {X Y : Type 0} (f : X → Y) (few many : Option X) → Gives few many → Gives (option_map f few) (option_map f many)
map_gives f None many more y is = absurd cc
map_gives f (Some x) many more y is = ap (option_map f) (more x refl) ∙ is

pub some_stays : {X : Type 0} (few many : Option X) → Gives few many → IsSome few → IsSome many
some_stays None many more is = absurd cc
some_stays (Some x) many more is = ap is_some (more x refl)

pub then_inner : {X Y : Type 0} (f : X → Option Y) (o : Option X) (y : Y) → option_and_then f o ≡ Some y → (x : X) × (o ≡ Some x) × (f x ≡ Some y)
then_inner f None y is = absurd cc
then_inner f (Some x) y is = (x, refl, is)

map_inner : {X Y : Type 0} (f : X → Y) (o : Option X) (y : Y) → option_map f o ≡ Some y → (x : X) × (o ≡ Some x)
map_inner f None y is = absurd cc
map_inner f (Some x) y is = (x, refl)

array_inner : (length : Option ℕ) (o : Option Laid) (laid : Laid) → array_extent length o ≡ Some laid → (inner : Laid) × (o ≡ Some inner)
array_inner None o laid is = absurd cc
array_inner (Some zero) o laid is = absurd cc
array_inner (Some (suc n)) None laid is = absurd cc
array_inner (Some (suc n)) (Some inner) laid is = (inner, refl)

record IsFront (first : Option Piece) (others : Option (List Piece)) : Type 0 where
  one : Piece
  one_is : first ≡ Some one
  rest : List Piece
  rest_is : others ≡ Some rest

front_inner : (first : Option Piece) (others : Option (List Piece)) (pieces : List Piece) → put_front first others ≡ Some pieces → IsFront first others
front_inner None others pieces is = absurd cc
front_inner (Some one) None pieces is = absurd cc
front_inner (Some one) (Some rest) pieces is = record { one = one; one_is = refl; rest = rest; rest_is = refl }

-- ---- completed records

count_grows : (few many : List (Option CRecord)) → ((number : ℕ) → Gives (option_flatten (slice_get few number)) (option_flatten (slice_get many number)))
    → completed_count few ≤ completed_count many
count_grows [] many more = omega arith
count_grows (None ∷ few) [] more = count_grows few [] (λ number. more (suc number))
count_grows (Some one ∷ few) [] more = absurd (let h : None ≡ Some one = more zero one refl in cc)
count_grows (None ∷ few) (None ∷ many) more = count_grows few many (λ number. more (suc number))
count_grows (None ∷ few) (Some other ∷ many) more =
    let h : completed_count few ≤ completed_count many = count_grows few many (λ number. more (suc number)) in omega arith
count_grows (Some one ∷ few) (None ∷ many) more = absurd (let h : None ≡ Some one = more zero one refl in cc)
count_grows (Some one ∷ few) (Some other ∷ many) more =
    let h : completed_count few ≤ completed_count many = count_grows few many (λ number. more (suc number)) in omega arith

module _ (opens : List ℕ) (before after : CTypes) (grows : Grows opens before after) where
  -- ---- layouts

  pass_grows : (few many : CLayouts) → Extends few many → Extends (pass before few) (pass after many)
  pass_grows few many extends number row is =
      row_at-pass after many number
      ∙ then_gives (row_of few) (row_of many) (record_at before number) (record_at after number) (grows.records number) (row_more few many extends) row
      (sym (row_at-pass before few number) ∙ is)

  pub passes_grow : (n : ℕ) → Extends (passes n before) (passes n after)
  passes_grow zero number row is = absurd (let h : None ≡ Some row = sym (passes_none before number) ∙ is in cc)
  passes_grow (suc n) number row is = pass_grows (passes n before) (passes n after) (passes_grow n) number row is

  counts : completed_count before.records ≤ completed_count after.records
  counts = count_grows before.records after.records grows.records

  behind : (few many : ℕ) → few ≤ many → few + (many - few) ≡ many
  behind few many le = omega arith

  pub layouts_grow : Extends (layouts_of before) (layouts_of after)
  layouts_grow number row is =
      let few = completed_count before.records in
      let many = completed_count after.records in
      let held : row_at (passes few after) number ≡ Some row = passes_grow few number row (sym (ap (λ all. row_at all number) (layouts_are before)) ∙ is) in
      ap (λ all. row_at all number) (layouts_are after)
      ∙ subst (λ n. row_at (passes n after) number ≡ Some row) (behind few many counts) (passes_after after few (many - few) number row held)

  pub whole_grows : (type : CTy) → Gives (whole_extent (layouts_of before) type) (whole_extent (layouts_of after) type)
  whole_grows type = extent_more (layouts_of before) (layouts_of after) layouts_grow type

  pub extent_grows : (type : CTy) → Gives (extent (layouts_of before) type) (extent (layouts_of after) type)
  extent_grows type =
      then_gives within_most within_most (whole_extent (layouts_of before) type) (whole_extent (layouts_of after) type) (whole_grows type) (λ laid found is. is)

  pub complete_stays : (type : CTy) → IsComplete before type → IsComplete after type
  complete_stays type = some_stays (extent (layouts_of before) type) (extent (layouts_of after) type) (extent_grows type)

  -- ---- types of a unit

  length_stays : (element : CTy) (length : Option ℕ)
      → IfSome length (λ count. (0 < count) × IsComplete before (ty (array element length) false))
      → IfSome length (λ count. (0 < count) × IsComplete after (ty (array element length) false))
  length_stays element None held = held
  length_stays element (Some count) held = (held.0, complete_stays (ty (array element (Some count)) false) held.1)

  array_stays : (is_const : Bool) (element : CTy) (length : Option ℕ) → IsArrayOf before is_const element length → IsArrayOf after is_const element length
  array_stays is_const element length held = record {
    plain = held.plain;
    complete = complete_stays element held.complete;
    length = length_stays element length held.length;
  }

  module _ (unit : ℕ) where
    mutual
      pub type_stays : (type : CTy) → IsTypeIn before unit type → IsTypeIn after unit type
      type_stays (ty form is_const) held = form_stays is_const form held

      form_stays : (is_const : Bool) (form : CTyForm) → IsFormIn before unit is_const form → IsFormIn after unit is_const form
      form_stays is_const void held = held
      form_stays is_const (basic which) held = held
      form_stays is_const (enum_type number) held = grows.enum_units number unit held
      form_stays is_const (pointer to) held = type_stays to held
      form_stays is_const (array element length) held = (type_stays element held.0, array_stays is_const element length held.1)
      form_stays is_const (record_type number) held = grows.record_units number unit held
      form_stays is_const (function result params variadic) held = (type_stays result held.0, held.1, params_stay variadic params held.2)

      params_stay : (variadic : Bool) (params : CParams) → AreParamsIn before unit variadic params → AreParamsIn after unit variadic params
      params_stay variadic unlisted held = held
      params_stay variadic (listed types) held = (held.0, types_stay types held.1)

      pub types_stay : (types : CTys) → AreTypesIn before unit types → AreTypesIn after unit types
      types_stay no_types held = held
      types_stay (more_types first others) held = (type_stays first held.0, held.1, types_stay others held.2)

  -- ---- integer types

  pub basic_grows : (form : CTyForm) → IsSettledForm opens form → Gives (basic_of before form) (basic_of after form)
  basic_grows void settled which is = is
  basic_grows (basic one) settled which is = is
  basic_grows (enum_type number) settled which is =
      map_gives basic_of_enum (slice_get before.enums number) (slice_get after.enums number) (grows.enums number settled) which is
  basic_grows (pointer to) settled which is = is
  basic_grows (array element length) settled which is = is
  basic_grows (record_type number) settled which is = is
  basic_grows (function result params variadic) settled which is = is

  -- ---- `const` parts

  module _ (layouts : CLayouts) (early late : ℕ → Bool) (same : (number : ℕ) (row : CRow) → row_at layouts number ≡ Some row → late number ≡ early number) where
    const_same : (type : CTy) (laid : Laid) → whole_extent layouts type ≡ Some laid → const_in late type ≡ const_in early type
    const_same (ty void is_const) laid is = refl
    const_same (ty (basic which) is_const) laid is = refl
    const_same (ty (enum_type number) is_const) laid is = refl
    const_same (ty (pointer to) is_const) laid is = refl
    const_same (ty (array element length) is_const) laid is =
        let inner = array_inner length (whole_extent layouts element) laid is in
        ap (λ held. is_const || held) (const_same element inner.0 inner.1)
    const_same (ty (record_type number) is_const) laid is =
        let inner = map_inner (λ row. row.laid) (row_at layouts number) laid is in
        ap (λ held. is_const || held) (same number inner.0 inner.1)
    const_same (ty (function result params variadic) is_const) laid is = refl

    members_same : (members : List CMember) (pieces : List Piece) → pieces_of layouts members ≡ Some pieces
        → list_any (λ one. const_in late one.type) members ≡ list_any (λ one. const_in early one.type) members
    members_same [] pieces is = refl
    members_same (first ∷ others) pieces is =
        let front = front_inner (piece_of layouts first) (pieces_of layouts others) pieces is in
        let inner = map_inner _ (whole_extent layouts first.type) front.one front.one_is in
        ap (λ held. held || list_any (λ one. const_in late one.type) others) (const_same first.type inner.0 inner.1)
        ∙ ap (λ held. const_in early first.type || held) (members_same others front.rest front.rest_is)

  const_row : (n number : ℕ) (row : CRow) → row_at (passes n before) number ≡ Some row → (early late : ℕ) → n ≤ early → n ≤ late
      → has_const after late number ≡ has_const before early number
  const_row zero number row is early late few more = absurd (let h : None ≡ Some row = sym (passes_none before number) ∙ is in cc)
  const_row (suc n) number row is zero late few more = absurd (let h : suc n ≤ 0 = few in omega arith)
  const_row (suc n) number row is (suc early) zero few more = absurd (let h : suc n ≤ 0 = more in omega arith)
  const_row (suc n) number row is (suc early) (suc late) few more =
      let found = then_inner (row_of (passes n before)) (record_at before number) row (sym (row_at-pass before (passes n before) number) ∙ is) in
      let laid = then_inner (row_of_pieces found.0.is_union) (pieces_of (passes n before) found.0.members) row found.2 in
      let few_then : n ≤ early = omega arith in
      let more_then : n ≤ late = omega arith in
      ap (any_const (has_const after late)) (grows.records number found.0 found.1)
      ∙ members_same (passes n before) (has_const before early) (has_const after late)
      (λ other other_row there. const_row n other other_row there early late few_then more_then) found.0.members laid.0 laid.1
      ∙ sym (ap (any_const (has_const before early)) found.1)

  same_count : (n : ℕ) → n ≤ n
  same_count n = omega arith

  pub const_stays : (type : CTy) → IsSome (extent (layouts_of before) type) → holds_const after type ≡ holds_const before type
  unfolding holds_const
  const_stays type complete =
      let few = completed_count before.records in
      let many = completed_count after.records in
      const_known (whole_extent (layouts_of before) type) refl complete
    where
      const_known : (found : Option Laid) → found ≡ whole_extent (layouts_of before) type → IsSome (option_and_then within_most found)
          → const_in (has_const after (completed_count after.records)) type ≡ const_in (has_const before (completed_count before.records)) type
      const_known None is there = absurd cc
      const_known (Some laid) is there =
          const_same (passes (completed_count before.records) before) (has_const before (completed_count before.records)) (has_const after (completed_count after.records))
          (λ number row held. const_row (completed_count before.records) number row held (completed_count before.records) (completed_count after.records)
          (same_count (completed_count before.records)) counts)
          type laid (sym (is ∙ ap (λ all. whole_extent all type) (layouts_are before)))

pub growth_keeps_types : GrowthKeepsTypes
growth_keeps_types opens before after unit (ty form is_const) grows settled = record {
  type_in = type_stays opens before after grows unit (ty form is_const);
  size = extent_grows opens before after grows (ty form is_const);
  basic = basic_grows opens before after grows form settled;
  const = const_stays opens before after grows (ty form is_const);
}
