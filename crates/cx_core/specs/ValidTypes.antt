-- Types of a program that C allows (ISO C99, 6.2.5, 6.7.2.1 to 6.7.2.3 and 6.7.5), within the limits of the profile.
use Rattle.std.specs.Prelude.{◌≡◌, ◌⊎◌, ℕ, zero, suc, ◌+◌, ◌*◌, ◌≤◌, ◌<◌, nat_lt, Bool, true, false, ◌||◌, ◌&&◌, if◌then◌else◌, List, [], ◌∷◌, length, Option, None, Some, is_some, IsSome, IfSome, All, slice_get, option_map}
use Rattle.std.specs.List.{IsDistinct, list_any}
use Rattle.std.specs.Option.{option_and_then, option_flatten}
use Rattle.std.specs.Str.{bytes_eq}
use Rattle.cr_base.specs.declared.layout.Laid.{Laid}
use Rattle.cr_base.specs.declared.layout.Spot.{Spot}
use Rattle.cx_core.specs.declared.ty.Basic.{Basic}
use Rattle.cx_core.specs.declared.ty.Basic.TheVariants.{Truth, Int}
use Rattle.cx_core.specs.Conversions.{basic_of, rank, width_of_basic, IsIntegerType}
use Rattle.cx_core.specs.Layouts.{CRow, extent, layouts_of, row_at, completed_count}
use Rattle.cx_core.specs.Trees.{CTy, ty, CTyForm, void, basic, enum_type, pointer, array, record_type, function, CParams, unlisted, listed, CTys, no_types, more_types, form_of_type, is_const_type, CMember, CRecord, CTypes}

-- ---- types

-- an object type, or an incomplete one other than `void` (6.2.5p1)
abbrev pub IsObjectForm : CTyForm → Type 0
IsObjectForm void = ⊥
IsObjectForm (function result params variadic) = ⊥
IsObjectForm _ = Unit {0}

-- what a function may give: no array and no function (6.7.5.3p1)
abbrev pub IsResultForm : CTyForm → Type 0
IsResultForm (array element length) = ⊥
IsResultForm (function result params variadic) = ⊥
IsResultForm _ = Unit {0}

-- what a parameter may be: also not `void` (6.7.5.3p7, p8 and p10)
abbrev pub IsParamForm : CTyForm → Type 0
IsParamForm void = ⊥
IsParamForm (array element length) = ⊥
IsParamForm (function result params variadic) = ⊥
IsParamForm _ = Unit {0}

-- an object type whose objects aren't too large (6.2.5p1)
abbrev pub IsComplete : CTypes → CTy → Type 0
IsComplete types type = IsSome (extent (layouts_of types) type)

-- an array that isn't qualified (6.7.3p8), of complete elements (6.7.5.2p1): of unknown length, or with one or more
-- and not too large
pub record IsArrayOf (types : CTypes) (is_const : Bool) (element : CTy) (length_is : Option ℕ) : Type 0 where
  pub plain : is_const ≡ false
  pub complete : IsComplete types element
  pub length : IfSome length_is (λ length. (0 < length) × IsComplete types (ty (array element length_is) false))

-- further arguments follow at least one parameter (6.7.5p1)
abbrev pub MayVary : CTys → Bool → Type 0
MayVary no_types variadic = variadic ≡ false
MayVary (more_types first others) variadic = Unit {0}

abbrev mutual
  -- a type that may stand in a unit: its records and enumerated types are of this unit
  pub IsTypeIn : CTypes → ℕ → CTy → Type 0
  IsTypeIn types unit (ty form is_const) = IsFormIn types unit is_const form

  pub IsFormIn : CTypes → ℕ → Bool → CTyForm → Type 0
  IsFormIn types unit is_const void = Unit {0}
  IsFormIn types unit is_const (basic which) = Unit {0}
  IsFormIn types unit is_const (enum_type number) = slice_get types.enum_units number ≡ Some unit
  IsFormIn types unit is_const (pointer to) = IsTypeIn types unit to
  IsFormIn types unit is_const (array element length) = IsTypeIn types unit element × IsArrayOf types is_const element length
  IsFormIn types unit is_const (record_type number) = slice_get types.record_units number ≡ Some unit
  IsFormIn types unit is_const (function result params variadic) =
      IsTypeIn types unit result × IsResultForm (form_of_type result) × AreParamsIn types unit variadic params

  pub AreParamsIn : CTypes → ℕ → Bool → CParams → Type 0
  AreParamsIn types unit variadic unlisted = variadic ≡ false
  AreParamsIn types unit variadic (listed params) = MayVary params variadic × AreTypesIn types unit params

  pub AreTypesIn : CTypes → ℕ → CTys → Type 0
  AreTypesIn types unit no_types = Unit {0}
  AreTypesIn types unit (more_types first others) =
      IsTypeIn types unit first × IsParamForm (form_of_type first) × AreTypesIn types unit others

-- ---- records (6.7.2.1)

-- the most bits that a bit-field of a type may have: its width, and 1 of `_Bool` (6.7.2.1p3)
abbrev pub most_bits : Basic → ℕ
most_bits Truth = 1
most_bits which = width_of_basic which

-- a bit-field of an integer type that is no wider than `int`
pub record IsBitFieldOf (types : CTypes) (one : CMember) (width : ℕ) : Type 0 where
  pub integer : IsIntegerType types one.type
  pub narrow : IfSome (basic_of types (form_of_type one.type)) (λ which. rank which ≤ rank Int)
  pub fits : IfSome (basic_of types (form_of_type one.type)) (λ which. width ≤ most_bits which)
  -- one of width 0 has no name
  pub named : IsSome one.name → 0 < width

-- a member of a record of a unit
pub record IsMemberIn (types : CTypes) (unit : ℕ) (one : CMember) : Type 0 where
  pub type_in : IsTypeIn types unit one.type
  pub complete : IsComplete types one.type
  pub bits : IfSome one.bits (IsBitFieldOf types one)
  -- a member without name is a bit-field
  pub named : IsSome one.name ⊎ IsSome one.bits

abbrev pub names_of_members : List CMember → List (List ℕ)
names_of_members [] = []
names_of_members (one ∷ others) = elim one.name as (λ _. List (List ℕ)) [
  | None ↦ names_of_members others
  | Some name ↦ name ∷ names_of_members others
]

-- the completed record with a number, of a unit
pub record IsRecordIn (types : CTypes) (number unit : ℕ) (one : CRecord) : Type 0 where
  pub number_is : one.number ≡ number
  pub tag_is : slice_get types.record_tags number ≡ Some (record { tag = one.tag; is_union = one.is_union })
  pub members : All (IsMemberIn types unit) one.members
  -- there is a named member, and no two have one name
  pub names_differ : IsDistinct bytes_eq (names_of_members one.members)
  pub named : 0 < length (names_of_members one.members)
  -- no record holds itself, and none is too large
  pub laid : IsSome (row_at (layouts_of types) number)

-- the record and enumerated types of a program
pub record AreTypes (types : CTypes) : Type 0 where
  pub tags : length types.record_tags ≡ length types.records
  pub record_units : length types.record_units ≡ length types.records
  pub enum_units : length types.enum_units ≡ length types.enums
  pub records : (number unit : ℕ) (one : CRecord) → slice_get types.records number ≡ Some (Some one)
      → slice_get types.record_units number ≡ Some unit → IsRecordIn types number unit one

-- ---- parts of objects

-- where a part of an object stands, and its type
pub record CPart : Type 0 where
  pub spot : Spot
  pub type : CTy

-- the member with a number, from 0 in text order, of a completed structure or union, and where it stands
abbrev members_of : Option CRecord → List CMember
members_of None = []
members_of (Some one) = one.members

abbrev pub member_of : CTypes → CTyForm → ℕ → Option CMember
member_of types (record_type number) index = slice_get (members_of (option_flatten (slice_get types.records number))) index
member_of types _ index = None

abbrev spots_in : Option CRow → List Spot
spots_in None = []
spots_in (Some row) = row.spots

abbrev pub spot_of : CTypes → CTyForm → ℕ → Option Spot
spot_of types (record_type number) index = slice_get (spots_in (row_at (layouts_of types) number)) index
spot_of types _ index = None

abbrev part_as : Option CMember → Option Spot → Option CPart
part_as (Some one) (Some spot) = Some (record { spot = spot; type = one.type })
part_as (Some one) None = None
part_as None spot = None

abbrev has_index : Option ℕ → ℕ → Bool
has_index None index = false
has_index (Some length) index = nat_lt index length

abbrev element_at : CTy → ℕ → Laid → CPart
element_at element index laid = record { spot = record { byte = index * laid.size; bit = 0; width = 0 }; type = element }

-- the element or the member with a number
abbrev pub direct_part : CTypes → ℕ → CTyForm → Option CPart
direct_part types index (array element length) =
    if has_index length index then option_map (element_at element index) (extent (layouts_of types) element) else None
direct_part types index (record_type number) =
    part_as (member_of types (record_type number) index) (spot_of types (record_type number) index)
direct_part types index _ = None

-- a part of a part; bit-fields have no parts of their own
abbrev pub within : CPart → CPart → CPart
within outer inner = record {
  spot = record {
    byte = outer.spot.byte + inner.spot.byte;
    bit = outer.spot.bit + inner.spot.bit;
    width = outer.spot.width + inner.spot.width;
  };
  type = inner.type;
}

-- the part of an object to which the numbers of elements and members lead, each in the one before
abbrev pub part_at : CTypes → List ℕ → CTy → Option CPart
part_at types [] type = Some (record { spot = record { byte = 0; bit = 0; width = 0 }; type = type })
part_at types (index ∷ path) type =
    option_and_then (λ outer. option_map (within outer) (part_at types path outer.type)) (direct_part types index (form_of_type type))

-- a member has a name; what is no member needs none
abbrev pub has_name : Option CMember → Bool
has_name None = true
has_name (Some one) = is_some one.name

-- each member on the way to a part of an object has a name: bit-fields without one aren't initialised (6.7.8p9)
abbrev pub is_named_path : CTypes → List ℕ → CTy → Bool
is_named_path types [] type = true
is_named_path types (index ∷ path) type =
    has_name (member_of types (form_of_type type) index)
    && (elim (direct_part types index (form_of_type type)) as (λ _. Bool) [
      | None ↦ true
      | Some part ↦ is_named_path types path part.type
    ])

-- a part of an object of a type stands there and has this type
pub record IsPartOf (types : CTypes) (holder : CTy) (spot : Spot) (type : CTy) : Type 0 where
  pub path : List ℕ
  pub leads : part_at types path holder ≡ Some (record { spot = spot; type = type })
  pub named : is_named_path types path holder ≡ true

-- a type with `const` added; an array passes it on to its elements (6.7.3p8)
abbrev pub with_const : Bool → CTy → CTy
with_const false type = type
with_const true (ty (array element length) is_const) = ty (array (with_const true element) length) is_const
with_const true (ty form is_const) = ty form true

-- a named member of a structure or union of a type stands there, with the qualifier of the whole (6.5.2.3p3, p4)
pub record IsMemberOf (types : CTypes) (holder : CTy) (spot : Spot) (type : CTy) : Type 0 where
  pub index : ℕ
  pub one : CMember
  pub member_is : member_of types (form_of_type holder) index ≡ Some one
  pub named : IsSome one.name
  pub spot_is : spot_of types (form_of_type holder) index ≡ Some spot
  pub type_is : type ≡ with_const (is_const_type holder) one.type

-- ---- what may be stored in (6.3.2.1p1)

abbrev pub const_in : (ℕ → Bool) → CTy → Bool
const_in const_records (ty (array element length) is_const) = is_const || const_in const_records element
const_in const_records (ty (record_type number) is_const) = is_const || const_records number
const_in const_records (ty form is_const) = is_const

abbrev pub any_const : (ℕ → Bool) → Option CRecord → Bool
any_const const_records None = false
any_const const_records (Some one) = list_any (λ member. const_in const_records member.type) one.members

-- a record has a `const` part, that at most so many records hold around it
abbrev pub has_const : CTypes → ℕ → ℕ → Bool
has_const types zero number = false
has_const types (suc depth) number = any_const (has_const types depth) (option_flatten (slice_get types.records number))

-- a type is `const`, or one of its elements or members is, or of theirs
unfoldable pub holds_const : CTypes → CTy → Bool
holds_const types type = const_in (has_const types (completed_count types.records)) type

-- an lvalue of this type is modifiable: no array, complete, and without a `const` part
pub record IsModifiable (types : CTypes) (type : CTy) : Type 0 where
  pub no_array : IsResultForm (form_of_type type)
  pub complete : IsComplete types type
  pub plain : holds_const types type ≡ false
