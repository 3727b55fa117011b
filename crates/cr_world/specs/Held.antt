-- The memory of a running program, beside the blocks that its allocations gave (ISO C99, 6.2.4 and 7.20.3).
use Rattle.std.specs.Prelude.{ℕ, Bool, true, false, ◌==◌, if◌then◌else◌, List, [], ◌∷◌, ◌++◌, length, replicate, Some, None, slice_set}
use Rattle.mem_bytes.specs.declared.fault.Fault.{Fault}
use Rattle.mem_bytes.specs.declared.value.Ptr.{Ptr}
use Rattle.mem_bytes.specs.Memory.{Block, Blocks, byte_cell, new_block}

-- what a running program holds
pub record Held : Type 0 where
  pub blocks : Blocks
  -- the blocks that `malloc` and `calloc` gave and that live still, by their numbers, the newest first
  pub heap : List ℕ

-- before the program begins
abbrev pub nothing_held : Held
nothing_held = record { blocks = []; heap = [] }

-- the same with another memory
abbrev pub with_blocks : Blocks → Held → Held
with_blocks blocks held = record held { blocks = blocks }

-- ---- lives of blocks (6.2.4)

-- a new block whose bytes are all 0
abbrev pub zero_block : ℕ → ℕ → Block
zero_block size align = record { align = align; cells = replicate size (byte_cell 0) }

-- a block at its beginning: its bytes are 0, or all its bits are unset
abbrev pub fresh_block : (is_zero : Bool) → ℕ → ℕ → Block
fresh_block true size align = zero_block size align
fresh_block false size align = new_block size align

-- the place at which the next block begins
abbrev pub next_place : Blocks → Ptr
next_place blocks = record { block = length blocks; offset = 0 }

-- with one more block, which gets the next number
abbrev pub with_block : Block → Blocks → Blocks
with_block block blocks = blocks ++ Some block ∷ []

-- a block dies
abbrev pub without_block : ℕ → Blocks → Blocks
without_block number blocks = slice_set blocks number None

-- ---- allocated blocks (7.20.3)

-- the block that `malloc` or `calloc` gives: aligned for every type (7.20.3p1)
abbrev pub heap_align : ℕ
heap_align = 16

abbrev pub with_allocated : (is_zero : Bool) → ℕ → Held → Held
with_allocated is_zero size held = record {
  blocks = with_block (fresh_block is_zero size heap_align) held.blocks;
  heap = length held.blocks ∷ held.heap;
}

-- a number is in a list
abbrev pub is_listed : ℕ → List ℕ → Bool
is_listed number [] = false
is_listed number (first ∷ others) = if first == number then true else is_listed number others

-- a list without the first entry of a number
abbrev pub without_entry : ℕ → List ℕ → List ℕ
without_entry number [] = []
without_entry number (first ∷ others) = if first == number then others else first ∷ without_entry number others

-- an allocated block dies
abbrev pub without_allocated : ℕ → Held → Held
without_allocated number held = record {
  blocks = without_block number held.blocks;
  heap = without_entry number held.heap;
}

-- ---- what may be wrong with what a call does to memory

pub data HeldFault : Type 0 where
  -- an access to memory
  access : Fault → HeldFault
  -- an access through a null pointer
  through_null : HeldFault
  -- what is freed isn't the start of an allocated block (7.20.3.2p2)
  not_allocated : HeldFault
  -- bytes are copied between places that overlap (7.21.2.1p2)
  overlapping : HeldFault
  -- an argument is no value of its parameter's type, which no typed program has
  wrong_kind : HeldFault
