-- A memory of bytes (ISO C99, 6.2.4 and 6.2.6.1; what the standard leaves open is this profile's).
use Rattle.std.specs.Prelude.{ℕ, ◌+◌, true, false, List, ◌++◌, length, take, drop, replicate, Option, Some, None, option_map, unwrap_or, slice_get}
use Rattle.mem_bytes.specs.declared.cell.Cell.{Cell}
use Rattle.mem_bytes.specs.declared.cell.Cell.TheVariants.{Bits}
use Rattle.mem_bytes.specs.declared.store.BlockState.{BlockState}

-- a live block: its alignment, and a cell for each of its bytes
pub record Block : Type 0 where
  pub align : ℕ
  pub cells : List Cell

-- a memory: its blocks by their numbers, from 0 on; none stands for a block that has died. A new
-- block comes at the end, so no number is ever used again
abbrev pub Blocks : Type 0
Blocks = List (Option Block)

-- the live block with a number, or none where no such block was made or it has died
abbrev pub live_block : Blocks → ℕ → Option Block
live_block memory number = unwrap_or (slice_get memory number) None

-- the size of a block, in bytes
abbrev pub size_of : Block → ℕ
size_of block = length block.cells

-- a cell of which no bit is set
abbrev pub unset_cell : Cell
unset_cell = Bits 0 0

-- the cell of a byte of which all bits are set
abbrev pub byte_cell : ℕ → Cell
byte_cell value = Bits value 255

-- a new block: all its bits are unset
abbrev pub new_block : ℕ → ℕ → Block
new_block size align = record { align = align; cells = replicate size unset_cell }

-- a block with other cells from an offset on
abbrev pub with_part : Block → ℕ → List Cell → Block
with_part block offset cells =
    record block {
      cells = take offset block.cells ++ cells ++ drop (offset + length cells) block.cells;
    }

-- what is told of a block that was made
abbrev pub state_of : Option Block → BlockState
state_of None = record { size = 0; align = 1; live = false }
state_of (Some block) = record { size = size_of block; align = block.align; live = true }

-- what is told of a block by its number: nothing where no such block was made
abbrev pub block_state : Blocks → ℕ → Option BlockState
block_state memory number = option_map state_of (slice_get memory number)
