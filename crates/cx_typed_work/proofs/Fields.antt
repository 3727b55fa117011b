-- Bit-fields of typed records: their kinds and widths.
use Rattle.std.proofs.Common.{◌≡◌, ◌⊎◌, inl, inr, ℕ, zero, suc, ◌+◌, ◌<◌, ◌≤◌, Bool, true, false, All, List, [], ◌∷◌, length, slice_get, option_map, Option, Some, None, IfSome, IsSome, refl, sym, ap, subst, ◌∙◌, arith}
use Rattle.std.specs.Option.{option_flatten}
use Rattle.cr_base.specs.declared.layout.Spot.{Spot}
use Rattle.cr_base.specs.declared.scalar.Scalar.{Scalar}
use Rattle.cr_base.specs.declared.scalar.Scalar.TheVariants.{Truth, Whole, Object, Code}
use Rattle.cx_core.specs.Conversions.{scalar_of, scalar_of_basic, basic_of, basic_of_enum, rank}
use Rattle.cx_core.specs.declared.ty.Basic.{Basic}
use Rattle.cx_core.specs.declared.ty.Basic.TheVariants as basics
use Rattle.cx_core.specs.Trees.{CTy, ty, CTyForm, void, basic, enum_type, pointer, array, record_type, function, form_of_type, is_const_type, CTypes, CMember, CRecord}
use Rattle.cx_core.specs.ValidTypes.{most_bits, IsBitFieldOf, IsMemberIn, AreTypes, member_of, with_const, IsMemberOf}
use Rattle.cx_typed_work.proofs.Accesses.{beside}
use Rattle.cx_typed_work.proofs.Spots.{FitsBits, spot_fits}

-- ---- members of typed records

pub all_at : {A : Type 0} (P : A → Type 0) (all : List A) (place : ℕ) (one : A) → All P all → slice_get all place ≡ Some one → P one
all_at P [] place one is e = cc
all_at P (first ∷ others) zero one is e =
    let same : first ≡ one = cc (e) in
    subst P same (is 0 first (omega arith))
all_at P (first ∷ others) (suc place) one is e = all_at P others place one (λ k d p. is (suc k) d (omega arith)) e

members_by : (types : CTypes) (number : ℕ) (held : Option (Option CRecord)) (units : Option ℕ) (index : ℕ) (one : CMember) → AreTypes types → slice_get types.records number ≡ held → slice_get types.record_units number ≡ units
    → (IsSome held → IsSome units) → slice_get (elim (option_flatten held) as (λ _. List CMember) [ None ↦ [] | Some record_held ↦ record_held.members ]) index ≡ Some one → (unit : ℕ) × IsMemberIn types unit one
members_by types number None units index one are h u both e = cc
members_by types number (Some None) units index one are h u both e = cc
members_by types number (Some (Some held)) None index one are h u both e = cc (both refl)
members_by types number (Some (Some held)) (Some unit) index one are h u both e =
    (unit, all_at (IsMemberIn types unit) held.members index one (are.records number unit held h u).members e)

-- a member of a record of typed types
pub member_in : (types : CTypes) (form : CTyForm) (index : ℕ) (one : CMember) → AreTypes types → member_of types form index ≡ Some one → (unit : ℕ) × IsMemberIn types unit one
member_in types (record_type number) index one are e =
    members_by types number (slice_get types.records number) (slice_get types.record_units number) index one are refl refl
    (λ some. unit_there (slice_get types.records number) refl some) e
  where
    unit_there : (found : Option (Option CRecord)) → slice_get types.records number ≡ found → IsSome found → IsSome (slice_get types.record_units number)
    unit_there None is some = cc
    unit_there (Some held) is some = beside types.records types.record_units number held (sym are.record_units) is
member_in types void index one are e = cc
member_in types (basic which) index one are e = cc
member_in types (enum_type number) index one are e = cc
member_in types (pointer to) index one are e = cc
member_in types (array element length) index one are e = cc
member_in types (function result params variadic) index one are e = cc

-- ---- kinds of bit-fields

-- a bit-field has no more bits than its type
abbrev pub FitsKind : Scalar → ℕ → Type 0
FitsKind Truth width = width ≤ 1
FitsKind (Whole size signed) width = width ≤ size
FitsKind Object width = ⊥
FitsKind Code width = ⊥

-- the kind of a bit-field's type, and its width
pub record IsField (types : CTypes) (type : CTy) (width : ℕ) : Type 0 where
  pub kind : Scalar
  pub kind_is : scalar_of types (form_of_type type) ≡ Some kind
  pub fits : FitsKind kind width
  pub narrow : width ≤ 32

field_of_basic : (which : Basic) (width : ℕ) → rank which ≤ rank basics.Int → width ≤ most_bits which → FitsKind (scalar_of_basic which) width × (width ≤ 32)
field_of_basic basics.Truth width narrow fits = (fits, omega (arith, fits))
field_of_basic basics.Char width narrow fits = (fits, omega (arith, fits))
field_of_basic basics.SignedChar width narrow fits = (fits, omega (arith, fits))
field_of_basic basics.UnsignedChar width narrow fits = (fits, omega (arith, fits))
field_of_basic basics.Short width narrow fits = (fits, omega (arith, fits))
field_of_basic basics.UnsignedShort width narrow fits = (fits, omega (arith, fits))
field_of_basic basics.Int width narrow fits = (fits, omega (arith, fits))
field_of_basic basics.Unsigned width narrow fits = (fits, omega (arith, fits))
field_of_basic basics.Long width narrow fits = absurd (omega (arith, narrow))
field_of_basic basics.UnsignedLong width narrow fits = absurd (omega (arith, narrow))
field_of_basic basics.LongLong width narrow fits = absurd (omega (arith, narrow))
field_of_basic basics.UnsignedLongLong width narrow fits = absurd (omega (arith, narrow))

enum_field : (types : CTypes) (number : ℕ) (is_const : Bool) (width : ℕ) (found : Option Bool) → slice_get types.enums number ≡ found → IsSome (option_map basic_of_enum found)
    → IfSome (option_map basic_of_enum found) (λ which. rank which ≤ rank basics.Int) → IfSome (option_map basic_of_enum found) (λ which. width ≤ most_bits which) → IsField types (ty (enum_type number) is_const) width
enum_field types number is_const width None e some narrow fits = cc
enum_field types number is_const width (Some is_int) e some narrow fits =
    let both = field_of_basic (basic_of_enum is_int) width narrow fits in
    record { kind = scalar_of_basic (basic_of_enum is_int); kind_is = ap (option_map (λ (int : Bool). scalar_of_basic (basic_of_enum int))) e; fits = both.0; narrow = both.1 }

basic_bit_field : (types : CTypes) (which : Basic) (is_const : Bool) (width : ℕ) → rank which ≤ rank basics.Int → width ≤ most_bits which → IsField types (ty (basic which) is_const) width
basic_bit_field types which is_const width narrow fits =
    let both = field_of_basic which width narrow fits in
    record { kind = scalar_of_basic which; kind_is = refl; fits = both.0; narrow = both.1 }

-- a member that is a bit-field, with its type
abbrev bits_member : Option (List ℕ) → CTy → ℕ → CMember
bits_member name type width = record { name = name; type = type; bits = Some width }

-- what is known of a bit-field's type
bit_field : (types : CTypes) (form : CTyForm) (is_const also : Bool) (name : Option (List ℕ)) (width : ℕ) → IsBitFieldOf types (bits_member name (ty form is_const) width) width
    → IsField types (with_const also (ty form is_const)) width
bit_field types (basic which) is_const false name width is = basic_bit_field types which is_const width is.narrow is.fits
bit_field types (basic which) is_const true name width is = basic_bit_field types which true width is.narrow is.fits
bit_field types (enum_type number) is_const false name width is = enum_field types number is_const width (slice_get types.enums number) refl is.integer is.narrow is.fits
bit_field types (enum_type number) is_const true name width is = enum_field types number true width (slice_get types.enums number) refl is.integer is.narrow is.fits
bit_field types void is_const also name width is = cc (is.integer)
bit_field types (pointer to) is_const also name width is = cc (is.integer)
bit_field types (array element length) is_const also name width is = cc (is.integer)
bit_field types (record_type number) is_const also name width is = cc (is.integer)
bit_field types (function result params variadic) is_const also name width is = cc (is.integer)

-- ---- places of members

-- a bit-field of a typed record, and where it begins
pub record IsFieldAt (types : CTypes) (type : CTy) (spot : Spot) : Type 0 where
  pub field : IsField types type spot.width
  pub bit : spot.bit < 8

member_bits : (types : CTypes) (one : CMember) (unit : ℕ) (also : Bool) (spot : Spot) (bits : Option ℕ) → one.bits ≡ bits → IsMemberIn types unit one → FitsBits bits spot → (spot.width ≡ 0 → ⊥)
    → IsFieldAt types (with_const also one.type) spot
member_bits types one unit also spot None b is fits some = absurd (some fits)
member_bits types one unit also spot (Some width) b is fits some =
    let bits : IsBitFieldOf types one width = subst (λ o. IfSome o (IsBitFieldOf types one)) b is.bits in
    record { field = subst (IsField types (with_const also one.type)) (sym fits.0) (by one.type refl bits); bit = fits.1 }
  where
    by : (type : CTy) → one.type ≡ type → IsBitFieldOf types one width → IsField types (with_const also type) width
    by (ty form is_const) t held = bit_field types form is_const also one.name width (subst (λ m. IsBitFieldOf types m width) (ap (λ k. bits_member one.name k width) t) (subst (λ o. IsBitFieldOf types (record { name = one.name; type = one.type; bits = o }) width) b held))

-- a member with a width is a bit-field
pub field_at : (types : CTypes) (holder : CTy) (spot : Spot) (type : CTy) → AreTypes types → IsMemberOf types holder spot type → (spot.width ≡ 0 → ⊥) → IsFieldAt types type spot
field_at types holder spot type are is some =
    let inside = member_in types (form_of_type holder) is.index is.one are is.member_is in
    subst (λ t. IsFieldAt types t spot) (sym is.type_is)
    (member_bits types is.one inside.0 (is_const_type holder) spot is.one.bits refl inside.1 (spot_fits types (form_of_type holder) is.index is.one spot is.member_is is.spot_is) some)

-- a holder of members is a structure or union
pub holder_is_record : (types : CTypes) (form : CTyForm) (index : ℕ) (one : CMember) (kind : Scalar) → member_of types form index ≡ Some one → scalar_of types form ≡ Some kind → ⊥
holder_is_record types (record_type number) index one kind member e = cc
holder_is_record types void index one kind member e = cc
holder_is_record types (basic which) index one kind member e = cc
holder_is_record types (enum_type number) index one kind member e = cc
holder_is_record types (pointer to) index one kind member e = cc
holder_is_record types (array element length) index one kind member e = cc
holder_is_record types (function result params variadic) index one kind member e = cc
