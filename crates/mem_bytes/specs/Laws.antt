-- Laws of memories. Each is the contract of a function with an empty body, in src/laws.rt.
use Rattle.std.specs.Prelude.{◌≡◌, ◌≢◌, ◌⊎◌, ℕ, zero, suc, ◌+◌, ◌*◌, ◌^◌, ◌<◌, ◌≤◌, List, [], ◌∷◌, length, replicate, All, Option, Some, None, slice_set, Result, Ok, Err}
use Rattle.cr_base.specs.declared.scalar.Scalar.{Scalar}
use Rattle.cr_base.specs.declared.scalar.Scalar.TheVariants.{Object, Code}
use Rattle.mem_bytes.specs.declared.cell.Cell.{Cell}
use Rattle.mem_bytes.specs.declared.cell.Cell.TheVariants.{Bits, PtrByte}
use Rattle.mem_bytes.specs.declared.fault.Fault.{Fault}
use Rattle.mem_bytes.specs.declared.fault.Fault.TheVariants.{Unset}
use Rattle.mem_bytes.specs.declared.value.Ptr.{Ptr}
use Rattle.mem_bytes.specs.declared.value.Value.{Value}
use Rattle.mem_bytes.specs.declared.value.Value.TheVariants.{Null}
use Rattle.mem_bytes.specs.Access.{and_then, part_at, value_at, after_put, field_at, after_put_bits, after_fill, cell_at, after_put_cell, record_at, after_put_record, after_copy, after_kill}
use Rattle.mem_bytes.specs.Bits.{bytes_touched}
use Rattle.mem_bytes.specs.Calls.{IsAlignment, IsBlockSize, IsFieldPlace, IsPointer}
use Rattle.mem_bytes.specs.Coding.{IsScalar, IsValueOf, scalar_size, cells_of, value_of}
use Rattle.mem_bytes.specs.Counted.{Limit, live_bytes, live_blocks, after_alloc}
use Rattle.mem_bytes.specs.Memory.{Block, Blocks, live_block, size_of, unset_cell, byte_cell, with_part}

-- ---- values and cells

-- the cells of a value mean that value
abbrev pub DecodesEncoded : Type 0
DecodesEncoded =
    (scalar : Scalar) (value : Value) → IsScalar scalar → IsValueOf scalar value →
    value_of scalar (cells_of scalar value) ≡ Ok value

-- the null pointer of both kinds is eight zero bytes, and eight zero bytes are it
pub record NullIsZeroBytes : Type 0 where
  pub object : cells_of Object Null ≡ replicate 8 (byte_cell 0)
  pub code : cells_of Code Null ≡ replicate 8 (byte_cell 0)
  pub object_back : value_of Object (replicate 8 (byte_cell 0)) ≡ Ok Null
  pub code_back : value_of Code (replicate 8 (byte_cell 0)) ≡ Ok Null

-- a scalar of which no bit was ever set has no value
abbrev pub NewIsUnset : Type 0
NewIsUnset =
    (scalar : Scalar) → IsScalar scalar →
    value_of scalar (replicate (scalar_size scalar) unset_cell) ≡ Err Unset

-- ---- loads after stores

-- what was stored in a scalar is loaded from it
abbrev pub LoadsStored : Type 0
LoadsStored =
    (memory after : Blocks) (at : Ptr) (scalar : Scalar) (value : Value) → IsScalar scalar →
    IsValueOf scalar value → after_put memory at scalar value ≡ Ok after →
    value_at after at scalar ≡ Ok value

-- a memory after so many cells were written from a place on, and nothing else
pub record Writes (memory : Blocks) (at : Ptr) (count : ℕ) (after : Blocks) : Type 0 where
  pub block : Block
  pub cells : List Cell
  pub live : live_block memory at.block ≡ Some block
  pub many : length cells ≡ count
  pub within : at.offset + count ≤ size_of block
  pub made : after ≡ slice_set memory at.block (Some (with_part block at.offset cells))

-- each call that changes cells writes those of its own place, and nothing else
pub record CallsWrite : Type 0 where
  pub put : (memory after : Blocks) (at : Ptr) (scalar : Scalar) (value : Value) →
      IsScalar scalar → IsValueOf scalar value → after_put memory at scalar value ≡ Ok after →
      Writes memory at (scalar_size scalar) after
  pub put_bits : (memory after : Blocks) (at : Ptr) (bit width field : ℕ) →
      after_put_bits memory at bit width field ≡ Ok after →
      Writes memory at (bytes_touched bit width) after
  pub fill : (memory after : Blocks) (at : Ptr) (byte count : ℕ) →
      after_fill memory at byte count ≡ Ok after → Writes memory at count after
  pub put_cell : (memory after : Blocks) (at : Ptr) (cell : Cell) →
      after_put_cell memory at cell ≡ Ok after → Writes memory at 1 after
  pub put_record : (memory after : Blocks) (at : Ptr) (align : ℕ) (cells : List Cell) →
      after_put_record memory at align cells ≡ Ok after → Writes memory at (length cells) after
  pub copy : (memory after : Blocks) (from to : Ptr) (count : ℕ) → 0 < count →
      after_copy memory from to count ≡ Ok after → Writes memory to count after

-- two runs of cells have no cell in common
abbrev pub AreApart : Ptr → ℕ → Ptr → ℕ → Type 0
AreApart at count other many =
    (at.block ≢ other.block) ⊎ ((at.offset + count ≤ other.offset) ⊎ (other.offset + many ≤ at.offset))

-- a write changes no cell elsewhere, and so no value, bit-field, structure or union there
pub record WritesNothingElse : Type 0 where
  pub cells : (memory after : Blocks) (at other : Ptr) (count many : ℕ) →
      Writes memory at count after → AreApart at count other many →
      part_at after other many ≡ part_at memory other many
  pub values : (memory after : Blocks) (at other : Ptr) (count : ℕ) (scalar : Scalar) →
      Writes memory at count after → AreApart at count other (scalar_size scalar) →
      value_at after other scalar ≡ value_at memory other scalar
  pub fields : (memory after : Blocks) (at other : Ptr) (count bit width : ℕ) →
      Writes memory at count after → AreApart at count other (bytes_touched bit width) →
      field_at after other bit width ≡ field_at memory other bit width
  pub records : (memory after : Blocks) (at other : Ptr) (count size align : ℕ) →
      Writes memory at count after → AreApart at count other size →
      record_at after other size align ≡ record_at memory other size align

-- the cells of one place stand at another after a copy, as they were before it, also where the two
-- overlap
abbrev pub CopiesCells : Type 0
CopiesCells =
    (memory after : Blocks) (from to : Ptr) (count : ℕ) → 0 < count →
    after_copy memory from to count ≡ Ok after →
    part_at after to count ≡ part_at memory from count

-- the place so many bytes behind another
abbrev pub behind : Ptr → ℕ → Ptr
behind at bytes = record at { offset = at.offset + bytes }

-- so many cells, read one after the other
abbrev pub cells_read : Blocks → Ptr → ℕ → Result (List Cell) Fault
cells_read memory at zero = Ok []
cells_read memory at (suc count) =
    and_then (cell_at memory at) (λ first.
    and_then (cells_read memory (behind at 1) count) (λ others. Ok (first ∷ others)))

-- cells stored one after the other
abbrev pub after_put_cells : Blocks → Ptr → List Cell → Result Blocks Fault
after_put_cells memory at [] = Ok memory
after_put_cells memory at (first ∷ others) =
    and_then (after_put_cell memory at first) (λ next. after_put_cells next (behind at 1) others)

-- what is read, stored or copied in one access is read, stored or copied cell by cell
pub record GoesCellByCell : Type 0 where
  pub read : (memory : Blocks) (at : Ptr) (size align : ℕ) (cells : List Cell) →
      record_at memory at size align ≡ Ok cells → cells_read memory at size ≡ Ok cells
  pub put : (memory after : Blocks) (at : Ptr) (align : ℕ) (cells : List Cell) →
      after_put_record memory at align cells ≡ Ok after → after_put_cells memory at cells ≡ Ok after
  pub copy : (memory after : Blocks) (from to : Ptr) (count place : ℕ) → place < count →
      after_copy memory from to count ≡ Ok after →
      cell_at after (behind to place) ≡ cell_at memory (behind from place)

-- ---- what cells hold

-- a cell as a machine holds it: its bits and set bits are those of a byte, and a pointer's byte is one
-- of the eight of a pointer that isn't null
abbrev pub IsHeld : Cell → Type 0
IsHeld (Bits value set) = (value < 256) × (set < 256)
IsHeld (PtrByte of index) = IsPointer of × (index < 8)

-- each cell of a memory is one that a machine holds
abbrev pub HoldsCells : Blocks → Type 0
HoldsCells memory =
    (number : ℕ) (block : Block) → live_block memory number ≡ Some block → All IsHeld block.cells

-- ---- bit-fields

-- what was stored in a bit-field is loaded from it
abbrev pub LoadsStoredBits : Type 0
LoadsStoredBits =
    (memory after : Blocks) (at : Ptr) (bit width field : ℕ) → IsFieldPlace bit width →
    field < 2 ^ width → after_put_bits memory at bit width field ≡ Ok after →
    field_at after at bit width ≡ Ok field

-- two bit-fields have no bit in common
abbrev pub AreFieldsApart : Ptr → ℕ → ℕ → Ptr → ℕ → ℕ → Type 0
AreFieldsApart at bit width other place wide =
    (at.block ≢ other.block)
    ⊎ ((8 * at.offset + bit + width ≤ 8 * other.offset + place)
    ⊎ (8 * other.offset + place + wide ≤ 8 * at.offset + bit))

-- a bit-field's neighbours stay as they are, also those in the bytes that it touches
abbrev pub BitsBesideStay : Type 0
BitsBesideStay =
    (memory after : Blocks) (at other : Ptr) (bit width field place wide : ℕ) →
    HoldsCells memory → IsFieldPlace bit width → field < 2 ^ width →
    AreFieldsApart at bit width other place wide →
    after_put_bits memory at bit width field ≡ Ok after →
    field_at after other place wide ≡ field_at memory other place wide

-- ---- lists of calls

-- one memory comes after another: some list of calls, each of which meets its conditions, leads from
-- the first to the second
pub data Later (before : Blocks) : Blocks → Type 0 where
  now : Later before before
  alloc : {memory after : Blocks} (limit : Option Limit) (size align : ℕ) → Later before memory →
      IsBlockSize size → IsAlignment align → after_alloc limit memory size align ≡ Ok after →
      Later before after
  kill : {memory after : Blocks} (number : ℕ) → Later before memory →
      after_kill memory number ≡ Ok after → Later before after
  put : {memory after : Blocks} (at : Ptr) (scalar : Scalar) (value : Value) →
      Later before memory → IsScalar scalar → IsValueOf scalar value →
      after_put memory at scalar value ≡ Ok after → Later before after
  put_bits : {memory after : Blocks} (at : Ptr) (bit width field : ℕ) → Later before memory →
      IsFieldPlace bit width → field < 2 ^ width →
      after_put_bits memory at bit width field ≡ Ok after → Later before after
  fill : {memory after : Blocks} (at : Ptr) (byte count : ℕ) → Later before memory → byte < 256 →
      after_fill memory at byte count ≡ Ok after → Later before after
  put_cell : {memory after : Blocks} (at : Ptr) (cell : Cell) → Later before memory →
      IsHeld cell → after_put_cell memory at cell ≡ Ok after → Later before after
  copy : {memory after : Blocks} (from to : Ptr) (count : ℕ) → Later before memory →
      after_copy memory from to count ≡ Ok after → Later before after

-- a new block is counted among those that were made, and no other call makes or forgets one
pub record CountsBlocks : Type 0 where
  pub alloc : (limit : Option Limit) (memory after : Blocks) (size align : ℕ) →
      after_alloc limit memory size align ≡ Ok after → length after ≡ length memory + 1
  pub kill : (memory after : Blocks) (number : ℕ) →
      after_kill memory number ≡ Ok after → length after ≡ length memory
  pub put : (memory after : Blocks) (at : Ptr) (scalar : Scalar) (value : Value) →
      after_put memory at scalar value ≡ Ok after → length after ≡ length memory
  pub put_bits : (memory after : Blocks) (at : Ptr) (bit width field : ℕ) →
      after_put_bits memory at bit width field ≡ Ok after → length after ≡ length memory
  pub fill : (memory after : Blocks) (at : Ptr) (byte count : ℕ) →
      after_fill memory at byte count ≡ Ok after → length after ≡ length memory
  pub put_cell : (memory after : Blocks) (at : Ptr) (cell : Cell) →
      after_put_cell memory at cell ≡ Ok after → length after ≡ length memory
  pub copy : (memory after : Blocks) (from to : Ptr) (count : ℕ) →
      after_copy memory from to count ≡ Ok after → length after ≡ length memory

-- calls keep each cell one that a machine holds
abbrev pub KeepsCells : Type 0
KeepsCells = (before later : Blocks) → HoldsCells before → Later before later → HoldsCells later

-- a block that has died stays dead, and every new block has a greater number
abbrev pub NeverUsedAgain : Type 0
NeverUsedAgain =
    (memory dead later : Blocks) (number : ℕ) → after_kill memory number ≡ Ok dead →
    Later dead later → (live_block later number ≡ None) × (number < length later)

-- ---- stores with a limit

-- under a limit the live blocks never go past it, and a new block's bytes are counted
abbrev pub KeepsLimit : Type 0
KeepsLimit =
    (limit : Limit) (memory after : Blocks) (size align : ℕ) → live_blocks memory ≤ limit.blocks →
    after_alloc (Some limit) memory size align ≡ Ok after →
    (live_bytes after ≡ live_bytes memory + size)
    × (live_bytes after ≤ limit.bytes)
    × (live_blocks after ≤ limit.blocks)
