-- What the crate has where C finds a member of a structure or union (ISO C99, 6.5.2.3; the Rust Reference, "Field access expressions").
use Rattle.std.specs.Prelude.{◌≡◌, ℕ, ◌%◌, ◌≤◌, true, pos, Some, Ok}
use Rattle.cr_base.specs.declared.layout.Spot.{Spot}
use Rattle.cr_base.specs.declared.scalar.Scalar.{Scalar}
use Rattle.cx_mean.specs.Accesses.{field_value}
use Rattle.cx_mean.specs.Initialisers.{part_with}
use Rattle.cx_mean.specs.Operands.{CValue, scalar}
use Rattle.lift_stands.specs.Stands.{Images, PlaceBelow, ValueBelow}
use Rattle.lift_stands_bits.specs.Laws.{FieldInBytes}
use Rattle.mem_bytes.specs.Access.{value_at}
use Rattle.mem_bytes.specs.Memory.{Blocks}
use Rattle.mem_bytes.specs.Pointers.{moved}
use Rattle.mem_bytes.specs.declared.value.Ptr.{Ptr}
use Rattle.mem_bytes.specs.declared.value.Value.{Value}
use Rattle.mem_bytes.specs.declared.value.Value.TheVariants.{Object}
use Rattle.rs_mean.specs.Calls.{may_stand}

-- ---- of a place

-- the member at a spot of a structure or union of an alignment, which stands where a pointer of the crate points to
pub record MemberBelow (images : Images) (others : Blocks) (align : ℕ) (there : Value) (spot : Spot) (value : CValue) : Type 0 where
  -- C's member is the part at a place
  pub at : Ptr
  pub is : value ≡ part_with at spot.bit spot.width
  -- for which the crate's pointer, moved by as many bytes, stands
  pub to : Ptr
  pub moves : moved others there (pos spot.byte) ≡ Ok (Object to)
  pub below : PlaceBelow images at to
  -- the structure or union may stand there, so the base of its fields is aligned
  pub based : (size : ℕ) → may_stand others (Some (record { size = size; align = align })) there ≡ true

-- ---- of a value

-- what has this alignment may stand so many bytes behind the begin of a structure or union
pub record FitsAt (size align byte : ℕ) : Type 0 where
  pub at_byte : byte % size ≡ 0
  pub at_begin : align % size ≡ 0
  pub within : size ≤ align

-- a scalar member of a value is loaded from where the value is held
pub record MemberLoaded (images : Images) (others : Blocks) (at : Ptr) (kind : Scalar) (value : CValue) : Type 0 where
  pub one : Value
  pub is : value ≡ scalar one
  pub given : Value
  pub done : value_at others at kind ≡ Ok given
  pub below : ValueBelow images one given

-- and the bytes of a bit-field are there
pub record BitsLoaded (others : Blocks) (at : Ptr) (bit width : ℕ) (kind : Scalar) (value : CValue) : Type 0 where
  pub one : Value
  pub is : value ≡ scalar one
  pub field : ℕ
  pub means : field_value kind width field ≡ Ok one
  pub bytes : FieldInBytes others at bit width field
