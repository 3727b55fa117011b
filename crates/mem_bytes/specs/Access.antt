-- Accesses to memory. The faults of each are found in this order: Dead, Outside, Misaligned, then
-- those of what the cells hold.
use Rattle.std.specs.Prelude.{ℕ, ◌+◌, ◌%◌, Bool, ◌&&◌, ◌==◌, nat_le, if◌then◌else◌, List, [], ◌∷◌, length, take, drop, replicate, Option, Some, None, slice_set, slice_index_or, Result, Ok, Err}
use Rattle.cr_base.specs.declared.scalar.Scalar.{Scalar}
use Rattle.mem_bytes.specs.declared.cell.Cell.{Cell}
use Rattle.mem_bytes.specs.declared.fault.Fault.{Fault}
use Rattle.mem_bytes.specs.declared.fault.Fault.TheVariants.{Dead, Outside, Misaligned}
use Rattle.mem_bytes.specs.declared.value.Ptr.{Ptr}
use Rattle.mem_bytes.specs.declared.value.Value.{Value}
use Rattle.mem_bytes.specs.Memory.{Block, Blocks, live_block, size_of, unset_cell, byte_cell, with_part}
use Rattle.mem_bytes.specs.Coding.{scalar_size, cells_of, value_of}
use Rattle.mem_bytes.specs.Bits.{bytes_touched, field_in, with_field_in}

-- a step, and then another that takes what the first gave; the first fault ends both
abbrev pub and_then : {A B E : Type 0} → Result A E → (A → Result B E) → Result B E
and_then (Ok value) next = next value
and_then (Err error) next = Err error

-- ---- accesses to one block

-- so many cells of a block from an offset on; Outside where they leave it
abbrev pub part_of : Block → ℕ → ℕ → Result (List Cell) Fault
part_of block offset count =
    if nat_le (offset + count) (size_of block)
    then Ok (take count (drop offset block.cells))
    else Err Outside

-- a scalar may stand at an offset of a block: its alignment divides the offset, and the block's
-- alignment isn't less
abbrev pub is_aligned : Scalar → Block → ℕ → Bool
is_aligned scalar block offset =
    offset % scalar_size scalar == 0 && nat_le (scalar_size scalar) block.align

-- the cells of a scalar; Misaligned where it may not stand there
abbrev pub scalar_part_of : Block → ℕ → Scalar → Result (List Cell) Fault
scalar_part_of block offset scalar =
    and_then (part_of block offset (scalar_size scalar)) (λ cells.
    if is_aligned scalar block offset then Ok cells else Err Misaligned)

-- the value of a scalar that a block holds
abbrev pub block_value : Block → ℕ → Scalar → Result Value Fault
block_value block offset scalar = and_then (scalar_part_of block offset scalar) (value_of scalar)

-- a block after a value was stored in a scalar
abbrev pub block_with_value : Block → ℕ → Scalar → Value → Result Block Fault
block_with_value block offset scalar value =
    and_then (scalar_part_of block offset scalar) (λ _.
    Ok (with_part block offset (cells_of scalar value)))

-- the bit-field that a block holds
abbrev pub block_field : Block → ℕ → ℕ → ℕ → Result ℕ Fault
block_field block offset bit width =
    and_then (part_of block offset (bytes_touched bit width)) (field_in bit width)

-- a block after a number was stored in a bit-field
abbrev pub block_with_field : Block → ℕ → ℕ → ℕ → ℕ → Result Block Fault
block_with_field block offset bit width field =
    and_then (part_of block offset (bytes_touched bit width)) (λ cells.
    and_then (with_field_in bit width field cells) (λ new. Ok (with_part block offset new)))

-- a block after so many bytes were set to one value
abbrev pub block_with_fill : Block → ℕ → ℕ → ℕ → Result Block Fault
block_with_fill block offset byte count =
    and_then (part_of block offset count) (λ _.
    Ok (with_part block offset (replicate count (byte_cell byte))))

-- the one cell of a block at an offset, as it is
abbrev pub block_cell : Block → ℕ → Result Cell Fault
block_cell block offset =
    and_then (part_of block offset 1) (λ _. Ok (slice_index_or block.cells offset unset_cell))

-- a block after its one cell at an offset was set
abbrev pub block_with_cell : Block → ℕ → Cell → Result Block Fault
block_with_cell block offset cell =
    and_then (part_of block offset 1) (λ _. Ok (with_part block offset (cell ∷ [])))

-- a block after so many cells were copied to it: the source, which may be the block itself, is read
-- as it was before
abbrev pub block_with_copy : Block → ℕ → Block → ℕ → ℕ → Result Block Fault
block_with_copy block offset source from count =
    and_then (part_of source from count) (λ cells.
    and_then (part_of block offset count) (λ _. Ok (with_part block offset cells)))

-- a structure or union of an alignment may stand at an offset of a block
abbrev pub is_record_aligned : ℕ → Block → ℕ → Bool
is_record_aligned align block offset = offset % align == 0 && nat_le align block.align

-- the cells of a structure or union of a size and an alignment; Misaligned where it may not stand
-- there
abbrev pub record_part_of : Block → ℕ → (size align : ℕ) → Result (List Cell) Fault
record_part_of block offset size align =
    and_then (part_of block offset size) (λ cells.
    if is_record_aligned align block offset then Ok cells else Err Misaligned)

-- a block after the cells of a structure or union of an alignment were stored
abbrev pub block_with_record : Block → ℕ → (align : ℕ) → List Cell → Result Block Fault
block_with_record block offset align cells =
    and_then (record_part_of block offset (length cells) align) (λ _.
    Ok (with_part block offset cells))

-- ---- accesses to a memory

-- what a step finds in a live block; Dead where the block isn't live
abbrev pub live_read : {A : Type 0} → Option Block → (Block → Result A Fault) → Result A Fault
live_read None step = Err Dead
live_read (Some block) step = step block

-- the memory after a step made another block of a live one; Dead where the block isn't live
abbrev pub live_change : Blocks → ℕ → (Block → Result Block Fault) → Result Blocks Fault
live_change memory number step =
    and_then (live_read (live_block memory number) step) (λ block.
    Ok (slice_set memory number (Some block)))

-- the value of a scalar at a place (6.3.2.1p2)
abbrev pub value_at : Blocks → Ptr → Scalar → Result Value Fault
value_at memory at scalar =
    live_read (live_block memory at.block) (λ block. block_value block at.offset scalar)

-- a value is stored in a scalar (6.5.16.1p2)
abbrev pub after_put : Blocks → Ptr → Scalar → Value → Result Blocks Fault
after_put memory at scalar value =
    live_change memory at.block (λ block. block_with_value block at.offset scalar value)

-- the value of a bit-field, as a number from 0 on (6.7.2.1p9)
abbrev pub field_at : Blocks → Ptr → ℕ → ℕ → Result ℕ Fault
field_at memory at bit width =
    live_read (live_block memory at.block) (λ block. block_field block at.offset bit width)

-- a number is stored in a bit-field
abbrev pub after_put_bits : Blocks → Ptr → ℕ → ℕ → ℕ → Result Blocks Fault
after_put_bits memory at bit width field =
    live_change memory at.block (λ block. block_with_field block at.offset bit width field)

-- bytes are set to one value (7.21.6.1)
abbrev pub after_fill : Blocks → Ptr → ℕ → ℕ → Result Blocks Fault
after_fill memory at byte count =
    live_change memory at.block (λ block. block_with_fill block at.offset byte count)

-- so many cells at a place, as they are
abbrev pub part_at : Blocks → Ptr → ℕ → Result (List Cell) Fault
part_at memory at count = live_read (live_block memory at.block) (λ block. part_of block at.offset count)

-- the cells of a structure or union of a size and an alignment, which are read in one access: a value
-- of its type is its cells, padding too (6.2.6.1p6)
abbrev pub record_at : Blocks → Ptr → (size align : ℕ) → Result (List Cell) Fault
record_at memory at size align =
    live_read (live_block memory at.block) (λ block. record_part_of block at.offset size align)

-- the cells of a structure or union of an alignment are stored in one access
abbrev pub after_put_record : Blocks → Ptr → (align : ℕ) → List Cell → Result Blocks Fault
after_put_record memory at align cells =
    live_change memory at.block (λ block. block_with_record block at.offset align cells)

-- the one cell at a place, as it is
abbrev pub cell_at : Blocks → Ptr → Result Cell Fault
cell_at memory at = live_read (live_block memory at.block) (λ block. block_cell block at.offset)

-- the one cell at a place is set
abbrev pub after_put_cell : Blocks → Ptr → Cell → Result Blocks Fault
after_put_cell memory at cell =
    live_change memory at.block (λ block. block_with_cell block at.offset cell)

-- cells are copied from one block to another, or inside one
abbrev pub copied_between : Blocks → Ptr → Ptr → ℕ → Option Block → Option Block → Result Blocks Fault
copied_between memory from to count (Some source) (Some target) =
    and_then (block_with_copy target to.offset source from.offset count) (λ block.
    Ok (slice_set memory to.block (Some block)))
copied_between memory from to count _ _ = Err Dead

-- cells are copied (7.21.2.2): Dead where one of the two blocks isn't live, then Outside where the
-- cells leave one; a copy of nothing does nothing
abbrev pub after_copy : Blocks → Ptr → Ptr → ℕ → Result Blocks Fault
after_copy memory from to count =
    if count == 0
    then Ok memory
    else copied_between memory from to count (live_block memory from.block) (live_block memory to.block)

-- a block dies (6.2.4)
abbrev pub after_kill : Blocks → ℕ → Result Blocks Fault
after_kill memory number =
    live_read (live_block memory number) (λ _. Ok (slice_set memory number None))
