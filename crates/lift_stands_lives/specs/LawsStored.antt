-- Laws of stores for what programs hold: those of memories (lift_stands/specs/LawsStores.antt), with the blocks that allocations gave and with what isn't the
-- piece's own.
use Rattle.std.specs.Prelude.{◌≡◌, ℕ, ◌<◌, Bool, List, length, All, Result, Ok}
use Rattle.cr_base.specs.declared.scalar.Scalar.{Scalar}
use Rattle.cr_world.specs.Held.{Held, with_blocks}
use Rattle.mem_bytes.specs.declared.cell.Cell.{Cell}
use Rattle.mem_bytes.specs.declared.fault.Fault.{Fault}
use Rattle.mem_bytes.specs.declared.value.Ptr.{Ptr}
use Rattle.mem_bytes.specs.declared.value.Value.{Value}
use Rattle.mem_bytes.specs.declared.value.Value.TheVariants.{Object}
use Rattle.mem_bytes.specs.Access.{record_at, after_put, after_put_record, after_put_cell, after_fill, after_copy}
use Rattle.mem_bytes.specs.Coding.{IsScalar, IsValueOf}
use Rattle.mem_bytes.specs.Laws.{IsHeld, HoldsCells, Writes}
use Rattle.mem_bytes.specs.Memory.{Blocks}
use Rattle.lift_stands.specs.Keeps.{KeepsOthers}
use Rattle.lift_stands.specs.Stands.{Images, PlaceBelow, ValueBelow, CellBelow, CellsBelow, StandsFor, IsVacant, PlaceHolds}
use Rattle.lift_stands.specs.Worlds.{HeldStands}

-- a store of the crate has a meaning, what is held after it stands for what C holds after its own, and both leave what isn't the piece's own
pub record StoreLeaves (images : Images) (held other : Held) (after : Blocks) (stored : Result Blocks Fault) : Type 0 where
  pub beyond : Blocks
  pub done : stored ≡ Ok beyond
  pub stands : HeldStands images (with_blocks after held) (with_blocks beyond other)
  pub keeps : (base : ℕ) (own : ℕ → Bool) → KeepsOthers base own images images held (with_blocks after held) other (with_blocks beyond other)

pub record StoresLeave : Type 0 where
  -- a structure or union that C loads is held by the place that stands for C's, from which the crate may copy it
  pub holds : (images : Images) (memory others : Blocks) (at to : Ptr) (size align : ℕ) (cells : List Cell) → StandsFor images memory others →
      PlaceBelow images at to → record_at memory at size align ≡ Ok cells → PlaceHolds images others align (Object to) cells
  pub value : (images : Images) (held other : Held) (after : Blocks) (at to : Ptr) (scalar : Scalar) (value given : Value) → IsScalar scalar →
      IsValueOf scalar value → HeldStands images held other → PlaceBelow images at to → ValueBelow images value given →
      after_put held.blocks at scalar value ≡ Ok after → StoreLeaves images held other after (after_put other.blocks to scalar given)
  pub one : (images : Images) (held other : Held) (after : Blocks) (at to : Ptr) (cell given : Cell) → IsHeld cell → IsHeld given →
      HeldStands images held other → PlaceBelow images at to → CellBelow images cell given → after_put_cell held.blocks at cell ≡ Ok after →
      StoreLeaves images held other after (after_put_cell other.blocks to given)
  pub record_cells : (images : Images) (held other : Held) (after : Blocks) (at to : Ptr) (align : ℕ) (cells given : List Cell) → All IsHeld cells →
      All IsHeld given → HeldStands images held other → PlaceBelow images at to → CellsBelow images cells given →
      after_put_record held.blocks at align cells ≡ Ok after → StoreLeaves images held other after (after_put_record other.blocks to align given)
  -- which the crate copies from a place that holds what stands for them, whether or not the two places overlap
  pub record_copied : (images : Images) (held other : Held) (after : Blocks) (at to source : Ptr) (align room : ℕ) (cells : List Cell) →
      HeldStands images held other → PlaceBelow images at to → PlaceHolds images other.blocks room (Object source) cells →
      after_put_record held.blocks at align cells ≡ Ok after → StoreLeaves images held other after (after_copy other.blocks source to (length cells))
  pub fill : (images : Images) (held other : Held) (after : Blocks) (at to : Ptr) (byte count : ℕ) → byte < 256 → HeldStands images held other →
      PlaceBelow images at to → after_fill held.blocks at byte count ≡ Ok after → StoreLeaves images held other after (after_fill other.blocks to byte count)
  pub copy : (images : Images) (held other : Held) (after : Blocks) (from at source to : Ptr) (count : ℕ) → HeldStands images held other →
      PlaceBelow images from source → PlaceBelow images at to → after_copy held.blocks from at count ≡ Ok after →
      StoreLeaves images held other after (after_copy other.blocks source to count)
  -- the crate alone, in a block that is vacant, as where a local gets zero bytes before its object begins anew
  pub aside : (images : Images) (held other : Held) (at : Ptr) (count : ℕ) (beyond : Blocks) → HeldStands images held other →
      IsVacant images held.blocks at.block → Writes other.blocks at count beyond → HoldsCells beyond → HeldStands images held (with_blocks beyond other)
