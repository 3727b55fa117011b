-- Bit-fields among members, and among parts of parts.
use Rattle.std.proofs.Common.{◌≡◌, ◌∙◌, ℕ, zero, suc, ◌+◌, ◌<◌, Bool, true, false, if◌then◌else◌, List, [], ◌∷◌, Option, Some, None, option_map, IsSome, slice_get, refl, sym, ap, subst, arith}
use Rattle.std.proofs.lemmas.Bool.{and_parts}
use Rattle.cr_base.specs.declared.layout.Spot.{Spot}
use Rattle.cr_base.specs.declared.scalar.Scalar.{Scalar}
use Rattle.cx_core.specs.Conversions.{scalar_of}
use Rattle.cx_core.specs.Layouts.{CRow, row_at, layouts_of}
use Rattle.cx_core.specs.Trees.{CTy, ty, CTyForm, void, basic, enum_type, pointer, array, record_type, function, form_of_type, CMember, CTypes}
use Rattle.cx_core.specs.ValidTypes.{AreTypes, CPart, direct_part, part_at, within, member_of, spot_of, has_name, is_named_path, IsMemberOf, IsPartOf}
use Rattle.cx_typed_work.proofs.Fields.{field_at}
use Rattle.cx_typed_work.proofs.Inside.{IsInside, member_inside}
use Rattle.cx_typed_work.proofs.Rows.{then_found, map_found, some_same}
use Rattle.lift_stores.specs.Fits.{Fits}
use Rattle.mem_bytes.specs.Calls.{IsFieldPlace}

-- what begins at a bit and has a width: a bit-field of the profile, or something that begins at a byte
record IsLow (bit width : ℕ) : Type 0 where
  begins : width ≡ 0 → bit ≡ 0
  fits : 0 < width → IsFieldPlace bit width

-- ---- members

-- a named member
pub member_fits : (types : CTypes) (holder : CTy) (spot : Spot) (type : CTy) → AreTypes types → IsMemberOf types holder spot type → Fits spot
member_fits types holder spot type are is = λ some.
    let found = field_at types holder spot type are is (λ none. absurd (omega (arith, some, none))) in
    record { bit_in_byte = found.bit; not_empty = omega (arith, some); not_too_wide = found.field.narrow }

inside_low : (types : CTypes) (size : ℕ) (type : CTy) (byte bit width : ℕ) → IsInside types size type byte bit width → IsLow bit width
inside_low types size type byte bit width is = record {
  begins = is.begins;
  fits = λ some. let found = is.of_bits (λ none. absurd (omega (arith, some, none))) in record { bit_in_byte = found.low; not_empty = omega (arith, some); not_too_wide = found.field.narrow };
}

abbrev spots_or : Option CRow → List Spot
spots_or None = []
spots_or (Some row) = row.spots

-- a spot is one of a row
row_found : (found : Option CRow) (index : ℕ) (spot : Spot) → slice_get (spots_or found) index ≡ Some spot → (row : CRow) × (found ≡ Some row)
row_found None index spot is = absurd cc
row_found (Some row) index spot is = (row, refl)

-- ---- what stands directly in an object

record IsDirect (types : CTypes) (part : CPart) : Type 0 where
  low : IsLow part.spot.bit part.spot.width
  -- what has a width is an integer
  scalar : (part.spot.width ≡ 0 → ⊥) → (kind : Scalar) × (scalar_of types (form_of_type part.type) ≡ Some kind)

abbrev part_as : Option CMember → Option Spot → Option CPart
part_as (Some one) (Some spot) = Some (record { spot = spot; type = one.type })
part_as (Some one) None = None
part_as None spot = None

name_there : (found : Option CMember) (one : CMember) → found ≡ Some one → has_name found ≡ true → IsSome one.name
name_there found one e named = subst (λ (o : Option CMember). has_name o ≡ true) e named

member_direct : (types : CTypes) (number index : ℕ) (one : CMember) (spot : Spot) → AreTypes types → member_of types (record_type number) index ≡ Some one → IsSome one.name →
    spot_of types (record_type number) index ≡ Some spot → IsDirect types (record { spot = spot; type = one.type })
member_direct types number index one spot are member_is named spot_is =
    let row = row_found (row_at (layouts_of types) number) index spot spot_is in
    let inside = member_inside types (ty (record_type number) false) index one spot row.0.laid are member_is named spot_is (ap (option_map (λ (row : CRow). row.laid)) row.1) in record {
      low = inside_low types row.0.laid.size one.type spot.byte spot.bit spot.width inside;
      scalar = λ some. let found = inside.of_bits some in (found.field.kind, found.field.kind_is);
    }

record_direct : (types : CTypes) (number index : ℕ) (found : Option CMember) (place : Option Spot) (part : CPart) → AreTypes types → member_of types (record_type number) index ≡ found →
    spot_of types (record_type number) index ≡ place → has_name found ≡ true → part_as found place ≡ Some part → IsDirect types part
record_direct types number index None place part are a b named is = absurd cc
record_direct types number index (Some one) None part are a b named is = absurd cc
record_direct types number index (Some one) (Some spot) part are a b named is =
    subst (IsDirect types) (some_same (record { spot = spot; type = one.type }) part is) (member_direct types number index one spot are a named b)

-- an element begins at a byte
picked : {X Y : Type 0} (is : Bool) (f : X → Y) (found : Option X) (y : Y) → (if is then option_map f found else None) ≡ Some y → (x : X) × (f x ≡ y)
picked true f None y e = absurd cc
picked true f (Some x) y e = (x, some_same (f x) y e)
picked false f found y e = absurd cc

element_direct : (types : CTypes) (part : CPart) → part.spot.bit ≡ 0 → part.spot.width ≡ 0 → IsDirect types part
element_direct types part bit width = record {
  low = record { begins = λ none. bit; fits = λ some. absurd (omega (arith, some, width)) };
  scalar = λ some. absurd (some width);
}

direct : (types : CTypes) (form : CTyForm) (index : ℕ) (part : CPart) → AreTypes types → direct_part types index form ≡ Some part → has_name (member_of types form index) ≡ true → IsDirect types part
direct types (record_type number) index part are is named =
    record_direct types number index (member_of types (record_type number) index) (spot_of types (record_type number) index) part are refl refl named is
direct types (array element length) index part are is named =
    let found = picked _ _ _ part is in
    element_direct types part (sym (ap (λ (one : CPart). one.spot.bit) found.1)) (sym (ap (λ (one : CPart). one.spot.width) found.1))
direct types void index part are is named = absurd cc
direct types (basic which) index part are is named = absurd cc
direct types (enum_type number) index part are is named = absurd cc
direct types (pointer to) index part are is named = absurd cc
direct types (function result params variadic) index part are is named = absurd cc

-- ---- parts of parts

no_parts : (types : CTypes) (form : CTyForm) (index : ℕ) (kind : Scalar) → scalar_of types form ≡ Some kind → direct_part types index form ≡ None
no_parts types (basic which) index kind is = refl
no_parts types (enum_type number) index kind is = refl
no_parts types (pointer to) index kind is = refl
no_parts types void index kind is = refl
no_parts types (array element length) index kind is = absurd cc
no_parts types (record_type number) index kind is = absurd cc
no_parts types (function result params variadic) index kind is = refl

abbrev path_behind : CTypes → List ℕ → Option CPart → Bool
path_behind types path None = true
path_behind types path (Some part) = is_named_path types path part.type

-- behind a bit-field no path goes on
ends_there : (types : CTypes) (path : List ℕ) (type : CTy) (kind : Scalar) (inner : CPart) → scalar_of types (form_of_type type) ≡ Some kind → part_at types path type ≡ Some inner → (inner.spot.bit ≡ 0) × (inner.spot.width ≡ 0)
ends_there types [] type kind inner is found =
    let same = some_same _ inner found in (sym (ap (λ (one : CPart). one.spot.bit) same), sym (ap (λ (one : CPart). one.spot.width) same))
ends_there types (index ∷ path) (ty form is_const) kind inner is found =
    let outer = then_found (λ outer. option_map (within outer) (part_at types path outer.type)) (direct_part types index form) inner found in
    let none = no_parts types form index kind is in
    absurd (nothing outer.0 (sym none ∙ outer.1))
  where
    nothing : (part : CPart) → None ≡ Some part → ⊥
    nothing part e = cc

sum_low : (outer_bit outer_width inner_bit inner_width : ℕ) → IsLow outer_bit outer_width → IsLow inner_bit inner_width → ((outer_width ≡ 0 → ⊥) → (inner_bit ≡ 0) × (inner_width ≡ 0)) →
    IsLow (outer_bit + inner_bit) (outer_width + inner_width)
sum_low outer_bit zero inner_bit inner_width outer inner ends =
    let none = outer.begins refl in
    subst (λ (bit : ℕ). IsLow bit (0 + inner_width)) (same outer_bit inner_bit none) (subst (λ (width : ℕ). IsLow inner_bit width) (less inner_width) inner)
  where
    same : (a b : ℕ) → a ≡ 0 → b ≡ a + b
    same a b e = omega (arith, e)

    less : (b : ℕ) → b ≡ 0 + b
    less b = omega arith
sum_low outer_bit (suc n) inner_bit inner_width outer inner ends =
    let none = ends (λ e. absurd (omega (arith, e))) in
    subst (λ (bit : ℕ). IsLow bit (suc n + inner_width)) (same outer_bit inner_bit none.0) (subst (λ (width : ℕ). IsLow outer_bit width) (same (suc n) inner_width none.1) outer)
  where
    same : (a b : ℕ) → b ≡ 0 → a ≡ a + b
    same a b e = omega (arith, e)

part_low : (types : CTypes) → AreTypes types → (path : List ℕ) (type : CTy) (part : CPart) → part_at types path type ≡ Some part → is_named_path types path type ≡ true → IsLow part.spot.bit part.spot.width
part_low types are [] type part is named =
    let same = some_same _ part is in
    subst (λ (one : CPart). IsLow one.spot.bit one.spot.width) same (record { begins = λ none. refl; fits = λ some. absurd (omega (arith, some)) })
part_low types are (index ∷ path) (ty form is_const) part is named =
    let outer = then_found (λ outer. option_map (within outer) (part_at types path outer.type)) (direct_part types index form) part is in
    let inner = map_found (within outer.0) (part_at types path outer.0.type) part outer.2 in
    let names = and_parts (has_name (member_of types form index)) (path_behind types path (direct_part types index form)) named in
    let behind : is_named_path types path outer.0.type ≡ true = sym (ap (path_behind types path) outer.1) ∙ names.1 in
    let held = direct types form index outer.0 are outer.1 names.0 in
    subst (λ (one : CPart). IsLow one.spot.bit one.spot.width) inner.2
    (sum_low outer.0.spot.bit outer.0.spot.width inner.0.spot.bit inner.0.spot.width held.low (part_low types are path outer.0.type inner.0 inner.1 behind)
    (λ some. let kind = held.scalar some in ends_there types path outer.0.type kind.0 inner.0 kind.1 inner.1))

-- a part of an object to which a value is stored
pub part_fits : (types : CTypes) (holder : CTy) (spot : Spot) (type : CTy) → AreTypes types → IsPartOf types holder spot type → Fits spot
part_fits types holder spot type are is = (part_low types are is.path holder (record { spot = spot; type = type }) is.leads is.named).fits
