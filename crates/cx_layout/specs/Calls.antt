-- What the calls on layouts do (ISO C99, 6.5.3.4 and 6.7.2.1).
use Rattle.std.specs.Prelude.{◌≡◌, ℕ, ◌≤◌, ◌<◌, Option, None, Some, option_map, IsSome, IfSome, All, slice_get, slice_set}
use Rattle.std.specs.Option.{option_and_then, option_flatten}
use Rattle.cr_base.specs.declared.layout.Laid.{Laid}
use Rattle.cr_base.specs.declared.layout.Spot.{Spot}
use Rattle.cr_base.specs.Layout.{most_bytes, laid_of}
use Rattle.cx_core.specs.Conversions.{width_of_basic}
use Rattle.cx_core.specs.Layouts.{CLayouts, row_at, row_of, pieces_of, whole_extent, layouts_of}
use Rattle.cx_core.specs.Trees.{CTy, ty, CTyForm, void, basic, enum_type, pointer, array, record_type, function, form_of_type, CMember, CRecord, CTypes}

-- ---- what is laid out

-- two tables lay out the same records, in the same way
abbrev pub HaveSameRows : CLayouts → CLayouts → Type 0
HaveSameRows first second = (number : ℕ) → row_at first number ≡ row_at second number

-- where the member with a number, from 0 in text order, of a record stands
abbrev pub spot_at : CLayouts → ℕ → ℕ → Option Spot
spot_at layouts number index = option_and_then (λ row. slice_get row.spots index) (row_at layouts number)

-- ---- one record more

-- a bit-field isn't wider than its declared type, which is an integer type (6.7.2.1p3)
abbrev pub IsWideEnough : CTyForm → ℕ → Type 0
IsWideEnough (basic which) width = width ≤ width_of_basic which
IsWideEnough (enum_type number) width = width ≤ 32
IsWideEnough _ width = ⊥

abbrev pub HasFittingBits : CMember → Type 0
HasFittingBits one = IfSome one.bits (IsWideEnough (form_of_type one.type))

-- a member of complete type (6.7.2.1p2)
abbrev pub IsMemberComplete : CLayouts → CMember → Type 0
IsMemberComplete layouts one = IsSome (whole_extent layouts one.type)

-- the size and the alignment of a record whose members are complete, whatever its size is
abbrev pub record_extent : CLayouts → CRecord → Option Laid
record_extent layouts one = option_map (laid_of one.is_union) (pieces_of layouts one.members)

-- a record has more than the most bytes
abbrev pub IsTooLarge : CLayouts → CRecord → Type 0
IsTooLarge layouts one =
    IsSome (record_extent layouts one) × IfSome (record_extent layouts one) (λ laid. most_bytes < laid.size)

-- a record is laid out among others: it isn't too large, it stands at its number as its members say, and no other record
-- changes
pub record AddsRecord (old : CLayouts) (one : CRecord) (new : CLayouts) : Type 0 where
  pub not_too_large : IfSome (record_extent old one) (λ laid. laid.size ≤ most_bytes)
  pub laid_out : IsSome (row_of old one)
  pub here : row_at new one.number ≡ row_of old one
  pub others : (number : ℕ) → (number ≡ one.number → ⊥) → row_at new number ≡ row_at old number

-- ---- all records of a program

-- the completed record with a number
abbrev pub record_at : CTypes → ℕ → Option CRecord
record_at types number = option_flatten (slice_get types.records number)

-- of each record that an object of a type holds by value something holds; the type is complete if these records are
abbrev pub HoldsOnly : (ℕ → Type 0) → CTy → Type 0
HoldsOnly P (ty (basic which) is_const) = Unit {0}
HoldsOnly P (ty (enum_type number) is_const) = Unit {0}
HoldsOnly P (ty (pointer to) is_const) = Unit {0}
HoldsOnly P (ty (array element length) is_const) = HoldsOnly P element × IfSome length (λ count. 0 < count) × IsSome length
HoldsOnly P (ty (record_type number) is_const) = P number
HoldsOnly P (ty void is_const) = ⊥
HoldsOnly P (ty (function result params variadic) is_const) = ⊥

-- a completed record stands at its number, and its members hold completed records of lower rank alone
pub record IsGrounded (types : CTypes) (rank : ℕ → ℕ) (number : ℕ) (one : CRecord) : Type 0 where
  pub number_is : one.number ≡ number
  pub bits : All HasFittingBits one.members
  pub holds : All (λ member. HoldsOnly (λ inner. IsSome (record_at types inner) × (rank inner < rank number)) member.type) one.members

-- no completed record holds itself or an incomplete type by value: records have ranks, and each holds only lower ones
pub record AreGrounded (types : CTypes) : Type 0 where
  pub rank : ℕ → ℕ
  pub grounded : (number : ℕ) (one : CRecord) → record_at types number ≡ Some one → IsGrounded types rank number one

-- layouts are those of a program's records
abbrev pub AreLayoutsOf : CTypes → CLayouts → Type 0
AreLayoutsOf types layouts = HaveSameRows layouts (layouts_of types)

-- every completed record is laid out
abbrev pub AreAllLaidOut : CTypes → CLayouts → Type 0
AreAllLaidOut types layouts = (number : ℕ) → IsSome (record_at types number) → IsSome (row_at layouts number)

-- some completed record has more than the most bytes
pub record HasTooLarge (types : CTypes) : Type 0 where
  pub number : ℕ
  pub one : CRecord
  pub completed : record_at types number ≡ Some one
  pub too_large : IsTooLarge (layouts_of types) one

-- a record of a program is completed, that wasn't before
pub record Completes (old : CTypes) (one : CRecord) (new : CTypes) : Type 0 where
  pub incomplete : slice_get old.records one.number ≡ Some None
  pub records_are : new.records ≡ slice_set old.records one.number (Some one)
