-- The types of a unit grow while it is read: records are completed, and records and enumerated types are added (ISO C99, 6.7.2.1, 6.7.2.2).
use Rattle.std.specs.Prelude.{◌≡◌, ℕ, ◌==◌, Bool, false, List, Option, Some, IsSome, slice_get}
use Rattle.std.specs.List.{list_any}
use Rattle.cx_core.specs.Trees.{CTy, ty, CTyForm, void, basic, enum_type, pointer, array, record_type, function, CParams, unlisted, listed, CTys, no_types, more_types, form_of_type, CTypes}
use Rattle.cx_core.specs.Conversions.{basic_of}
use Rattle.cx_core.specs.Layouts.{extent, layouts_of}
use Rattle.cx_core.specs.ValidTypes.{IsTypeIn, holds_const}
use Rattle.cx_layout.specs.Calls.{record_at}

-- what is there by the first is there by the second
abbrev pub Gives : {X : Type 0} → Option X → Option X → Type 0
Gives {X} first second = (x : X) → first ≡ Some x → second ≡ Some x

-- the list of an enumerated type hasn't ended: whether it is `int` isn't known yet
abbrev pub is_open : List ℕ → ℕ → Bool
is_open opens number = list_any (λ one. one == number) opens

-- types have grown, where the lists of some enumerated types haven't ended
pub record Grows (opens : List ℕ) (before after : CTypes) : Type 0 where
  pub records : (number : ℕ) → Gives (record_at before number) (record_at after number)
  pub tags : (number : ℕ) → Gives (slice_get before.record_tags number) (slice_get after.record_tags number)
  pub record_units : (number : ℕ) → Gives (slice_get before.record_units number) (slice_get after.record_units number)
  pub enum_units : (number : ℕ) → Gives (slice_get before.enum_units number) (slice_get after.enum_units number)
  pub enums : (number : ℕ) → is_open opens number ≡ false → Gives (slice_get before.enums number) (slice_get after.enums number)

-- a type names no enumerated type whose list hasn't ended
abbrev mutual
  pub IsSettled : List ℕ → CTy → Type 0
  IsSettled opens (ty form is_const) = IsSettledForm opens form

  pub IsSettledForm : List ℕ → CTyForm → Type 0
  IsSettledForm opens void = Unit {0}
  IsSettledForm opens (basic which) = Unit {0}
  IsSettledForm opens (enum_type number) = is_open opens number ≡ false
  IsSettledForm opens (pointer to) = IsSettled opens to
  IsSettledForm opens (array element length) = IsSettled opens element
  IsSettledForm opens (record_type number) = Unit {0}
  IsSettledForm opens (function result params variadic) = IsSettled opens result × AreSettledParams opens params

  pub AreSettledParams : List ℕ → CParams → Type 0
  AreSettledParams opens unlisted = Unit {0}
  AreSettledParams opens (listed types) = AreSettled opens types

  pub AreSettled : List ℕ → CTys → Type 0
  AreSettled opens no_types = Unit {0}
  AreSettled opens (more_types first others) = IsSettled opens first × AreSettled opens others

-- what stays of a type
pub record KeepsType (unit : ℕ) (before after : CTypes) (type : CTy) : Type 0 where
  pub type_in : IsTypeIn before unit type → IsTypeIn after unit type
  pub size : Gives (extent (layouts_of before) type) (extent (layouts_of after) type)
  pub basic : Gives (basic_of before (form_of_type type)) (basic_of after (form_of_type type))
  pub const : IsSome (extent (layouts_of before) type) → holds_const after type ≡ holds_const before type

abbrev pub GrowthKeepsTypes : Type 0
GrowthKeepsTypes = (opens : List ℕ) (before after : CTypes) (unit : ℕ) (type : CTy) → Grows opens before after → IsSettled opens type → KeepsType unit before after type
