-- Loads at places of the crate that stand for places of C.
use Rattle.std.proofs.Common.{◌≡◌, ℕ, ◌+◌, ◌≤◌, ◌%◌, ◌==◌, ◌&&◌, nat_le, Bool, true, false, cond, List, length, take, drop, slice_index_or, Option, Some, None, Result, Ok, Err, refl, sym, ap, ◌∙◌, subst, arith}
use Rattle.std.proofs.lemmas.Bool.{and_parts, and_from, cond-true, leb-true, le-leb}
use Rattle.cr_base.specs.declared.scalar.Scalar.{Scalar}
use Rattle.mem_bytes.specs.declared.cell.Cell.{Cell}
use Rattle.mem_bytes.specs.declared.fault.Fault.{Fault}
use Rattle.mem_bytes.specs.declared.fault.Fault.TheVariants.{Misaligned}
use Rattle.mem_bytes.specs.declared.value.Ptr.{Ptr}
use Rattle.mem_bytes.specs.declared.value.Value.{Value}
use Rattle.mem_bytes.specs.Access.{and_then, part_of, is_aligned, scalar_part_of, block_value, block_cell, is_record_aligned, record_part_of, live_read, value_at, part_at, record_at, cell_at}
use Rattle.mem_bytes.specs.Coding.{scalar_size, value_of}
use Rattle.mem_bytes.specs.Memory.{Block, Blocks, live_block, size_of, unset_cell}
use Rattle.mem_bytes.proofs.Reached.{and_then_ok, part_ok, part_inside, scalar_part_ok}
use Rattle.lift_stands.specs.LawsLoads.{HoldsBelow, PartBelow, RecordBelow, OneBelow}
use Rattle.lift_stands.specs.Stands.{Images, PlaceBelow, CellBelow, CellsBelow, BlockBelow, StandsFor}
use Rattle.lift_stands.proofs.Cells.{length_below, take_below, drop_below, cell_of_below}
use Rattle.lift_stands.proofs.Decoded.{value_alike}
use Rattle.lift_stands.proofs.Images.{same_images}

-- the block of the crate at a place that stands for one in a live block of C
pub record BlockThere (images : Images) (others : Blocks) (to : Ptr) (block : Block) : Type 0 where
  pub other : Block
  pub live : live_block others to.block ≡ Some other
  pub below : BlockBelow images block other

pub block_there : (images : Images) (memory others : Blocks) (at to : Ptr) (block : Block) → StandsFor images memory others → PlaceBelow images at to → live_block memory at.block ≡ Some block → BlockThere images others to block
block_there images memory others at to block stands place live =
    let has = stands.blocks at.block block live in
    let same : has.image ≡ to.block = same_images images.blocks at.block at.block has.image to.block refl has.entry place.block in
    record { other = has.other; live = subst (λ n. live_block others n ≡ Some has.other) same has.live; below = has.below }

pub read_live : {A : Type 0} (slot : Option Block) (step : Block → Result A Fault) (last : A) → live_read slot step ≡ Ok last → (block : Block) × (slot ≡ Some block) × (step block ≡ Ok last)
read_live None step last e = cc
read_live (Some block) step last e = (block, refl, e)

-- ---- accesses to one block

module _ (images : Images) (block other : Block) (below : BlockBelow images block other) (offset there : ℕ) (same : there ≡ offset) where
  pub part_there : (count : ℕ) (cells : List Cell) → part_of block offset count ≡ Ok cells → (found : List Cell) × (part_of other there count ≡ Ok found) × CellsBelow images cells found
  part_there count cells e =
      let inside = part_ok block offset count cells e in
      let size : length other.cells ≡ length block.cells = length_below images block.cells other.cells below.cells in
      let room : there + count ≤ size_of other = omega (arith, inside.0, size, same) in
      let list = take count (drop there other.cells) in
      let cells_there : CellsBelow images (take count (drop there block.cells)) list = take_below images count (drop there block.cells) (drop there other.cells) (drop_below images there block.cells other.cells below.cells) in
      (list, part_inside other there count room, subst (λ c. CellsBelow images c list) (ap (λ n. take count (drop n block.cells)) same ∙ sym inside.1) cells_there)

  aligned_there : (size : ℕ) → (offset % size == 0 && nat_le size block.align) ≡ true → (there % size == 0 && nat_le size other.align) ≡ true
  aligned_there size e =
      let parts = and_parts (offset % size == 0) (nat_le size block.align) e in
      let wide : size ≤ block.align = leb-true size block.align parts.1 in
      and_from (there % size == 0) (nat_le size other.align) (ap (λ n. n % size == 0) same ∙ parts.0) (le-leb size other.align (omega (arith, wide, below.align)))

  pub scalar_part_there : (scalar : Scalar) (cells : List Cell) → scalar_part_of block offset scalar ≡ Ok cells → (found : List Cell) × (scalar_part_of other there scalar ≡ Ok found) × CellsBelow images cells found
  scalar_part_there scalar cells e =
      let parts = scalar_part_ok block offset scalar cells e in
      let part = part_there (scalar_size scalar) cells parts.0 in
      (part.0, ap (λ r. and_then r (λ held. cond (is_aligned scalar other there) (Ok held) (Err Misaligned))) part.1 ∙ cond-true _ _ _ (aligned_there (scalar_size scalar) parts.1), part.2)

  pub record_part_there : (size align : ℕ) (cells : List Cell) → record_part_of block offset size align ≡ Ok cells → (found : List Cell) × (record_part_of other there size align ≡ Ok found) × CellsBelow images cells found
  record_part_there size align cells e =
      let parts = and_then_ok (part_of block offset size) (λ held. cond (is_record_aligned align block offset) (Ok held) (Err Misaligned)) cells e in
      let fits = fitting (is_record_aligned align block offset) parts.0 cells parts.2 in
      let part = part_there size cells (parts.1 ∙ ap Ok fits.1) in
      (part.0, ap (λ r. and_then r (λ held. cond (is_record_aligned align other there) (Ok held) (Err Misaligned))) part.1 ∙ cond-true _ _ _ (aligned_there align fits.0), part.2)
    where
      fitting : (fits : Bool) (held found : List Cell) → cond fits (Ok held) (Err Misaligned) ≡ Ok found → (fits ≡ true) × (held ≡ found)
      fitting true held found f = (refl, cc)
      fitting false held found f = cc

-- ---- loads

module _ (images : Images) (memory others : Blocks) (at to : Ptr) where
  pub load_value : (scalar : Scalar) (value : Value) → StandsFor images memory others → PlaceBelow images at to → value_at memory at scalar ≡ Ok value → HoldsBelow images others to scalar value
  load_value scalar value stands place e =
      let read = read_live (live_block memory at.block) (λ block. block_value block at.offset scalar) value e in
      let there = block_there images memory others at to read.0 stands place read.1 in
      let parts = and_then_ok (scalar_part_of read.0 at.offset scalar) (value_of scalar) value read.2 in
      let part = scalar_part_there images read.0 there.other there.below at.offset to.offset place.offset scalar parts.0 parts.1 in
      let found = value_alike images scalar parts.0 part.0 value part.2 parts.2 in
      record {
        other = found.0;
        found = ap (λ slot. live_read slot (λ block. block_value block to.offset scalar)) there.live ∙ ap (λ r. and_then r (value_of scalar)) part.1 ∙ found.1;
        below = found.2;
      }

  pub load_part : (count : ℕ) (cells : List Cell) → StandsFor images memory others → PlaceBelow images at to → part_at memory at count ≡ Ok cells → PartBelow images others to count cells
  load_part count cells stands place e =
      let read = read_live (live_block memory at.block) (λ block. part_of block at.offset count) cells e in
      let there = block_there images memory others at to read.0 stands place read.1 in
      let part = part_there images read.0 there.other there.below at.offset to.offset place.offset count cells read.2 in
      record { other = part.0; found = ap (λ slot. live_read slot (λ block. part_of block to.offset count)) there.live ∙ part.1; below = part.2 }

  pub load_record : (size align : ℕ) (cells : List Cell) → StandsFor images memory others → PlaceBelow images at to → record_at memory at size align ≡ Ok cells → RecordBelow images others to size align cells
  load_record size align cells stands place e =
      let read = read_live (live_block memory at.block) (λ block. record_part_of block at.offset size align) cells e in
      let there = block_there images memory others at to read.0 stands place read.1 in
      let part = record_part_there images read.0 there.other there.below at.offset to.offset place.offset size align cells read.2 in
      record { other = part.0; found = ap (λ slot. live_read slot (λ block. record_part_of block to.offset size align)) there.live ∙ part.1; below = part.2 }

  pub load_one : (cell : Cell) → StandsFor images memory others → PlaceBelow images at to → cell_at memory at ≡ Ok cell → OneBelow images others to cell
  load_one cell stands place e =
      let read = read_live (live_block memory at.block) (λ block. block_cell block at.offset) cell e in
      let there = block_there images memory others at to read.0 stands place read.1 in
      let held : Block → ℕ → List Cell → Result Cell Fault = λ block offset cells. Ok (slice_index_or block.cells offset unset_cell) in
      let parts = and_then_ok (part_of read.0 at.offset 1) (held read.0 at.offset) cell read.2 in
      let inside = part_ok read.0 at.offset 1 parts.0 parts.1 in
      let part = part_there images read.0 there.other there.below at.offset to.offset place.offset 1 parts.0 parts.1 in
      let one : slice_index_or read.0.cells at.offset unset_cell ≡ cell = cc (parts.2) in
      let below = cell_of_below images at.offset read.0.cells there.other.cells unset_cell unset_cell there.below.cells (omega (arith, inside.0)) in
      record {
        other = slice_index_or there.other.cells at.offset unset_cell;
        found =
            ap (λ slot. live_read slot (λ block. block_cell block to.offset)) there.live
            ∙ ap (λ r. and_then r (held there.other to.offset)) part.1
            ∙ ap (λ n. Ok (slice_index_or there.other.cells n unset_cell)) place.offset;
        below = subst (λ c. CellBelow images c (slice_index_or there.other.cells at.offset unset_cell)) one below;
      }
