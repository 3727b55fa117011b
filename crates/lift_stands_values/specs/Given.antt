-- What the crate has for what an operand of C gives (ISO C99, 6.2.5, 6.3.2.1 and 6.5): a value, or the address of a place; a structure or union is held at a
-- place.
use Rattle.std.specs.Prelude.{◌≡◌, ℕ, List, [], ◌∷◌, Option, Some, None}
use Rattle.cr_base.specs.declared.layout.Laid.{Laid}
use Rattle.cr_base.specs.declared.scalar.Scalar.{Scalar}
use Rattle.cx_core.specs.Trees.{CTy}
use Rattle.cx_mean.specs.Operands.{CValue, scalar, cells, names, designates, designates_bits, missing, COperand, Frame, slot_of}
use Rattle.cx_mean.specs.Settings.{CSetting, scalar_in_type, extent_in}
use Rattle.lift_stands.specs.Stands.{Images, ValueBelow, PlaceHolds}
use Rattle.mem_bytes.specs.Coding.{IsValueOf}
use Rattle.mem_bytes.specs.Memory.{Blocks}
use Rattle.mem_bytes.specs.declared.value.Ptr.{Ptr}
use Rattle.mem_bytes.specs.declared.value.Value.{Value}
use Rattle.mem_bytes.specs.declared.value.Value.TheVariants.{Object}
use Rattle.rs_mean.specs.Scalars.{scalar_of}
use Rattle.rs_mean.specs.Values.{Typed}
use Rattle.rs_text.specs.Tree.{Ty, Pointer}

-- ---- operands

-- the address of an object in scope
abbrev pub AddressBelow : Images → Option Ptr → Value → Type 0
AddressBelow images None given = ⊥
AddressBelow images (Some at) given = ValueBelow images (Object at) given

-- what is given stands for what an operand gives, in a frame of C: an object by its address, a structure or union by a place that holds it with this alignment,
-- a bit-field by the address of its first byte; and anything stands for a missing value
abbrev pub GivenBelow : Images → Blocks → Frame → (align : ℕ) → CValue → Value → Type 0
GivenBelow images others frame align (scalar value) given = ValueBelow images value given
GivenBelow images others frame align (cells list from) given = PlaceHolds images others align given list
GivenBelow images others frame align (names number) given = AddressBelow images (slot_of frame number) given
GivenBelow images others frame align (designates value) given = ValueBelow images value given
GivenBelow images others frame align (designates_bits at bit width) given = ValueBelow images (Object at) given
GivenBelow images others frame align missing given = Unit {0}

-- the alignment of a type; 1 where it has none
abbrev pub align_or : Option Laid → ℕ
align_or None = 1
align_or (Some laid) = laid.align

abbrev pub align_in : CSetting → CTy → ℕ
align_in setting type = align_or (extent_in setting type)

-- what has a type of the crate for what an operand gives: the value itself, or a pointer to where it is
abbrev pub given_type : Ty → CValue → Ty
given_type ty (scalar value) = ty
given_type ty missing = ty
given_type ty (cells list from) = Pointer ty
given_type ty (names number) = Pointer ty
given_type ty (designates value) = Pointer ty
given_type ty (designates_bits at bit width) = Pointer ty

-- a scalar is in the range of its type
abbrev pub IsInKind : Option Scalar → CValue → Type 0
IsInKind (Some kind) (scalar value) = IsValueOf kind value
IsInKind None (scalar value) = ⊥
IsInKind kind (cells list from) = Unit {0}
IsInKind kind (names number) = Unit {0}
IsInKind kind (designates value) = Unit {0}
IsInKind kind (designates_bits at bit width) = Unit {0}
IsInKind kind missing = Unit {0}

-- what is given has the type of the crate that an operand's type is, stands for what that gives, and is in range
pub record TypedBelow (setting : CSetting) (ty : Ty) (images : Images) (others : Blocks) (frame : Frame) (operand : COperand) (given : Typed) : Type 0 where
  pub typed : given.ty ≡ given_type ty operand.value
  pub below : GivenBelow images others frame (align_in setting operand.type) operand.value given.value
  pub in_kind : IsInKind (scalar_in_type setting operand.type) operand.value

-- ---- arguments

-- what is given for an argument stands for its value, if it has a scalar one, and its type is to memory what C's is
pub record ArgumentBelow (setting : CSetting) (images : Images) (operand : COperand) (given : Typed) : Type 0 where
  pub below : (value : Value) → operand.value ≡ scalar value → ValueBelow images value given.value
  pub kind : scalar_of given.ty ≡ scalar_in_type setting operand.type

-- one is given for each
abbrev pub ArgumentsBelow : CSetting → Images → List COperand → List Typed → Type 0
ArgumentsBelow setting images [] [] = Unit {0}
ArgumentsBelow setting images (operand ∷ operands) (given ∷ others) =
    ArgumentBelow setting images operand given × ArgumentsBelow setting images operands others
ArgumentsBelow setting images [] (given ∷ others) = ⊥
ArgumentsBelow setting images (operand ∷ operands) [] = ⊥
