-- A memory in chunks of 64 numbers each, of which one whose blocks are all dead holds nothing.
use Rattle.std.specs.Prelude.{◌≡◌, ℕ, zero, suc, ◌<◌, ◌≤◌, List, [], ◌∷◌, ◌++◌, length, replicate, Option, Some, None, option_map, slice_set}
use Rattle.mem_bytes.specs.Memory.{Block, Blocks, live_block}

-- the blocks of a chunk that holds nothing
unfoldable pub dead_blocks : Blocks
dead_blocks = replicate 64 None

-- the blocks of a chunk
abbrev pub blocks_in : Option Blocks → Blocks
blocks_in None = dead_blocks
blocks_in (Some blocks) = blocks

-- the blocks of all chunks, one behind another
abbrev pub all_blocks : List (Option Blocks) → Blocks
all_blocks [] = []
all_blocks (chunk ∷ chunks) = blocks_in chunk ++ all_blocks chunks

-- the blocks of the chunk with a number; past the last one there are none
abbrev pub chunk_at : List (Option Blocks) → ℕ → Blocks
chunk_at [] number = []
chunk_at (chunk ∷ chunks) zero = blocks_in chunk
chunk_at (chunk ∷ chunks) (suc number) = chunk_at chunks number

-- each chunk but the last is full
abbrev pub IsPacked : List (Option Blocks) → Type 0
IsPacked [] = Unit {0}
IsPacked (chunk ∷ []) = length (blocks_in chunk) ≤ 64
IsPacked (chunk ∷ next ∷ chunks) = (length (blocks_in chunk) ≡ 64) × IsPacked (next ∷ chunks)

-- the blocks of a chunk have all died
pub record IsDeadAt (chunks : List (Option Blocks)) (number : ℕ) : Type 0 where
  pub within : number < length chunks
  pub dead : chunk_at chunks number ≡ dead_blocks

-- chunks of which each but the last is full hold so many blocks, live and dead
pub record Holds (made : ℕ) (chunks : List (Option Blocks)) : Type 0 where
  pub packed : IsPacked chunks
  pub count : made ≡ length (all_blocks chunks)

-- a block without cells
abbrev pub no_block : Block
no_block = record { align = 1; cells = [] }

-- a memory whose live block with a number has lost its cells
abbrev pub emptied : Blocks → ℕ → Blocks
emptied memory number = slice_set memory number (option_map (λ _. no_block) (live_block memory number))
