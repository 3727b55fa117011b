-- Laws of loads: where a load of C has a meaning, the load of the crate at the place that stands for its has one, too, and what it gives stands for what
-- C's gives (ISO C99, 6.3.2.1p2, 6.2.6.1).
use Rattle.std.specs.Prelude.{◌≡◌, ℕ, List, Ok}
use Rattle.cr_base.specs.declared.scalar.Scalar.{Scalar}
use Rattle.mem_bytes.specs.declared.cell.Cell.{Cell}
use Rattle.mem_bytes.specs.declared.value.Ptr.{Ptr}
use Rattle.mem_bytes.specs.declared.value.Value.{Value}
use Rattle.mem_bytes.specs.Access.{value_at, part_at, record_at, cell_at}
use Rattle.mem_bytes.specs.Memory.{Blocks}
use Rattle.lift_stands.specs.Stands.{Images, PlaceBelow, ValueBelow, CellBelow, CellsBelow, StandsFor}

-- a place of the crate has a value below one of C
pub record HoldsBelow (images : Images) (others : Blocks) (to : Ptr) (scalar : Scalar) (value : Value) : Type 0 where
  pub other : Value
  pub found : value_at others to scalar ≡ Ok other
  pub below : ValueBelow images value other

-- so many cells at a place of the crate
pub record PartBelow (images : Images) (others : Blocks) (to : Ptr) (count : ℕ) (cells : List Cell) : Type 0 where
  pub other : List Cell
  pub found : part_at others to count ≡ Ok other
  pub below : CellsBelow images cells other

-- those of a structure or union, read in one access
pub record RecordBelow (images : Images) (others : Blocks) (to : Ptr) (size align : ℕ) (cells : List Cell) : Type 0 where
  pub other : List Cell
  pub found : record_at others to size align ≡ Ok other
  pub below : CellsBelow images cells other

-- one cell
pub record OneBelow (images : Images) (others : Blocks) (to : Ptr) (cell : Cell) : Type 0 where
  pub other : Cell
  pub found : cell_at others to ≡ Ok other
  pub below : CellBelow images cell other

pub record LoadsStand : Type 0 where
  pub value : (images : Images) (memory others : Blocks) (at to : Ptr) (scalar : Scalar) (value : Value) → StandsFor images memory others →
      PlaceBelow images at to → value_at memory at scalar ≡ Ok value → HoldsBelow images others to scalar value
  pub part : (images : Images) (memory others : Blocks) (at to : Ptr) (count : ℕ) (cells : List Cell) → StandsFor images memory others →
      PlaceBelow images at to → part_at memory at count ≡ Ok cells → PartBelow images others to count cells
  pub record_cells : (images : Images) (memory others : Blocks) (at to : Ptr) (size align : ℕ) (cells : List Cell) → StandsFor images memory others →
      PlaceBelow images at to → record_at memory at size align ≡ Ok cells → RecordBelow images others to size align cells
  pub one : (images : Images) (memory others : Blocks) (at to : Ptr) (cell : Cell) → StandsFor images memory others → PlaceBelow images at to →
      cell_at memory at ≡ Ok cell → OneBelow images others to cell
