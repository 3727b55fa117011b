-- What the crate has where C loads an object or stores in one.
use Rattle.std.specs.Prelude.{◌≡◌, ℕ, ◌^◌, Bool, true, ℤ, pos, List, length, Some, None, Ok}
use Rattle.cr_base.specs.Scalar.{residue}
use Rattle.cr_base.specs.declared.layout.Laid.{Laid}
use Rattle.cr_base.specs.declared.scalar.Scalar.{Scalar}
use Rattle.cr_world.specs.Held.{Held, with_blocks}
use Rattle.cx_mean.specs.Accesses.{field_value, CStored}
use Rattle.cx_mean.specs.Operands.{CValue, scalar, cells}
use Rattle.mem_bytes.specs.declared.cell.Cell.{Cell}
use Rattle.mem_bytes.specs.declared.value.Ptr.{Ptr}
use Rattle.mem_bytes.specs.declared.value.Value.{Value}
use Rattle.mem_bytes.specs.declared.value.Value.TheVariants.{Whole, Object}
use Rattle.mem_bytes.specs.Memory.{Blocks}
use Rattle.rs_mean.specs.Calls.{loaded_as, stored_as, copy_of}
use Rattle.lift_stands.specs.Keeps.{KeepsOthers}
use Rattle.lift_stands.specs.Stands.{Images, ValueBelow, PlaceHolds}
use Rattle.lift_stands.specs.Worlds.{HeldStands}
use Rattle.lift_stands_bits.specs.Laws.{FieldInBytes, FieldLeaves}

-- ---- loads

-- a scalar: the crate loads what stands for C's value
pub record ScalarLoaded (images : Images) (others : Blocks) (to : Ptr) (kind : Scalar) (value : CValue) : Type 0 where
  pub one : Value
  pub is : value ≡ scalar one
  pub given : Value
  pub done : loaded_as others true (Some kind) (Object to) ≡ Ok given
  pub below : ValueBelow images one given

-- a structure or union: the crate holds it where it stands
pub record RecordLoaded (images : Images) (others : Blocks) (at to : Ptr) (laid : Laid) (value : CValue) : Type 0 where
  pub list : List Cell
  pub is : value ≡ cells list (Some at)
  pub many : length list ≡ laid.size
  pub holds : PlaceHolds images others laid.align (Object to) list

-- a bit-field: the crate has its bytes
pub record FieldLoaded (others : Blocks) (to : Ptr) (bit width : ℕ) (kind : Scalar) (value : CValue) : Type 0 where
  pub one : Value
  pub is : value ≡ scalar one
  pub field : ℕ
  pub means : field_value kind width field ≡ Ok one
  pub bytes : FieldInBytes others to bit width field

-- ---- stores

-- what both hold after a store stands for each other, and what isn't the piece's own is as it was
pub record LeftStanding (images : Images) (held other : Held) (after beyond : Blocks) : Type 0 where
  pub stands : HeldStands images (with_blocks after held) (with_blocks beyond other)
  pub keeps : (base : ℕ) (own : ℕ → Bool) → KeepsOthers base own images images held (with_blocks after held) other (with_blocks beyond other)

-- a scalar: the crate stores what stands for C's value
pub record ScalarStored (images : Images) (held other : Held) (to : Ptr) (kind : Scalar) (value given : Value) (one : CStored) : Type 0 where
  pub is : one.value ≡ scalar value
  pub beyond : Blocks
  pub done : stored_as other.blocks true (Some kind) (Object to) given ≡ Ok beyond
  pub left : LeftStanding images held other one.blocks beyond

-- a structure or union: the crate copies it from a place that holds it
pub record RecordStored (images : Images) (held other : Held) (to source : Ptr) (laid : Laid) (list : List Cell) (one : CStored) : Type 0 where
  pub is : one.value ≡ cells list None
  pub beyond : Blocks
  pub done : copy_of (Object source) (Object to) (Whole (pos laid.size)) other ≡ Ok (record { value = tt; held = with_blocks beyond other })
  pub left : LeftStanding images held other one.blocks beyond

-- a bit-field: the crate stores the bytes of their number with as many low bits of C's number
pub record FieldStored (images : Images) (held other : Held) (to : Ptr) (bit width : ℕ) (kind : Scalar) (number : ℤ) (one : CStored) : Type 0 where
  pub value : Value
  pub means : field_value kind width (residue number (2 ^ width)) ≡ Ok value
  pub is : one.value ≡ scalar value
  pub bytes : FieldLeaves images held other one.blocks to bit width (residue number (2 ^ width))
