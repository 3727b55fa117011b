-- Laws of stores: where a store of C has a meaning, the store of the crate at the place that stands for its, of what stands for what C stores, has one, too,
-- and the memories stand for each other after them, under the same images (ISO C99, 6.5.16.1p2, 7.21.2, 7.21.6.1).
use Rattle.std.specs.Prelude.{◌≡◌, ℕ, ◌<◌, List, All, Ok, Result}
use Rattle.cr_base.specs.declared.scalar.Scalar.{Scalar}
use Rattle.mem_bytes.specs.declared.cell.Cell.{Cell}
use Rattle.mem_bytes.specs.declared.fault.Fault.{Fault}
use Rattle.mem_bytes.specs.declared.value.Ptr.{Ptr}
use Rattle.mem_bytes.specs.declared.value.Value.{Value}
use Rattle.mem_bytes.specs.Access.{after_put, after_put_record, after_put_cell, after_fill, after_copy}
use Rattle.mem_bytes.specs.Laws.{IsHeld}
use Rattle.mem_bytes.specs.Memory.{Blocks}
use Rattle.lift_stands.specs.Stands.{Images, PlaceBelow, ValueBelow, CellBelow, CellsBelow, StandsFor}

-- a store of the crate has a meaning, and the memory after it stands for this one of C
pub record StandsAfter (images : Images) (after : Blocks) (stored : Result Blocks Fault) : Type 0 where
  pub other : Blocks
  pub done : stored ≡ Ok other
  pub stands : StandsFor images after other

pub record StoresStand : Type 0 where
  pub value : (images : Images) (memory after others : Blocks) (at to : Ptr) (scalar : Scalar) (value other : Value) → StandsFor images memory others →
      PlaceBelow images at to → ValueBelow images value other → after_put memory at scalar value ≡ Ok after →
      StandsAfter images after (after_put others to scalar other)
  pub one : (images : Images) (memory after others : Blocks) (at to : Ptr) (cell other : Cell) → StandsFor images memory others → PlaceBelow images at to →
      CellBelow images cell other → IsHeld cell → IsHeld other → after_put_cell memory at cell ≡ Ok after →
      StandsAfter images after (after_put_cell others to other)
  pub record_cells : (images : Images) (memory after others : Blocks) (at to : Ptr) (align : ℕ) (cells other : List Cell) →
      StandsFor images memory others → PlaceBelow images at to → CellsBelow images cells other → All IsHeld cells → All IsHeld other →
      after_put_record memory at align cells ≡ Ok after → StandsAfter images after (after_put_record others to align other)
  pub fill : (images : Images) (memory after others : Blocks) (at to : Ptr) (byte count : ℕ) → StandsFor images memory others → PlaceBelow images at to →
      byte < 256 → after_fill memory at byte count ≡ Ok after → StandsAfter images after (after_fill others to byte count)
  -- whether or not the two places overlap
  pub copy : (images : Images) (memory after others : Blocks) (from at source to : Ptr) (count : ℕ) → StandsFor images memory others →
      PlaceBelow images from source → PlaceBelow images at to → after_copy memory from at count ≡ Ok after →
      StandsAfter images after (after_copy others source to count)
