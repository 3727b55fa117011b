-- Laws of accesses to objects (ISO C99, 6.3.2.1p2, 6.5.16.1 and 6.7.2.1p9), at a place of the crate that stands for C's.
use Rattle.std.specs.Prelude.{◌≡◌, ℕ, ℤ, true, List, Option, Ok}
use Rattle.cr_base.specs.declared.layout.Laid.{Laid}
use Rattle.cr_base.specs.declared.scalar.Scalar.{Scalar}
use Rattle.cr_world.specs.Held.{Held}
use Rattle.cx_mean.specs.Accesses.{CLoaded, loaded_scalar, loaded_record, loaded_bits, CStored, stored_scalar, stored_record, stored_bits}
use Rattle.cx_mean.specs.Marks.{Marks}
use Rattle.cx_mean.specs.Operands.{scalar, cells}
use Rattle.mem_bytes.specs.declared.cell.Cell.{Cell}
use Rattle.mem_bytes.specs.declared.value.Ptr.{Ptr}
use Rattle.mem_bytes.specs.declared.value.Value.{Value}
use Rattle.mem_bytes.specs.declared.value.Value.TheVariants.{Whole, Object}
use Rattle.mem_bytes.specs.Coding.{IsScalar}
use Rattle.mem_bytes.specs.Memory.{Blocks}
use Rattle.lift_stands.specs.Stands.{Images, PlaceBelow, ValueBelow, StandsFor, PlaceHolds}
use Rattle.lift_stands.specs.Worlds.{HeldStands}
use Rattle.lift_stands_accesses.specs.Objects.{ScalarLoaded, RecordLoaded, FieldLoaded, ScalarStored, RecordStored, FieldStored}

pub record ObjectsAreLoaded : Type 0 where
  pub scalars : (images : Images) (memory others : Blocks) (at to : Ptr) (marks : Marks) (kind : Scalar) (one : CLoaded) → StandsFor images memory others →
      PlaceBelow images at to → loaded_scalar memory at marks kind ≡ Ok one → ScalarLoaded images others to kind one.value
  pub records : (images : Images) (memory others : Blocks) (at to : Ptr) (marks : Marks) (laid : Laid) (one : CLoaded) → StandsFor images memory others →
      PlaceBelow images at to → loaded_record memory at marks laid ≡ Ok one → RecordLoaded images others at to laid one.value
  pub fields : (images : Images) (memory others : Blocks) (at to : Ptr) (bit width : ℕ) (marks : Marks) (kind : Scalar) (one : CLoaded) →
      images.in_bytes ≡ true → StandsFor images memory others → PlaceBelow images at to → loaded_bits memory at bit width marks kind ≡ Ok one →
      FieldLoaded others to bit width kind one.value

pub record ObjectsAreStored : Type 0 where
  pub scalars : (images : Images) (held other : Held) (at to : Ptr) (marks : Marks) (kind : Scalar) (value given : Value) (one : CStored) → IsScalar kind →
      HeldStands images held other → PlaceBelow images at to → ValueBelow images value given →
      stored_scalar held.blocks at marks (scalar value) kind ≡ Ok one → ScalarStored images held other to kind value given one
  pub records : (images : Images) (held other : Held) (at to source : Ptr) (marks : Marks) (laid : Laid) (room : ℕ) (list : List Cell) (from : Option Ptr)
      (one : CStored) → HeldStands images held other → PlaceBelow images at to → PlaceHolds images other.blocks room (Object source) list →
      stored_record held.blocks at marks (cells list from) laid ≡ Ok one → RecordStored images held other to source laid list one
  pub fields : (images : Images) (held other : Held) (at to : Ptr) (bit width : ℕ) (marks : Marks) (kind : Scalar) (number : ℤ) (one : CStored) →
      images.in_bytes ≡ true → HeldStands images held other → PlaceBelow images at to →
      stored_bits held.blocks at bit width marks (scalar (Whole number)) kind ≡ Ok one → FieldStored images held other to bit width kind number one
