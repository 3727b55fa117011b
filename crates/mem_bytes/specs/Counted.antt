-- New blocks, and stores that have a limit.
use Rattle.std.specs.Prelude.{ℕ, ◌+◌, ◌-◌, Bool, ◌||◌, ◌==◌, nat_lt, if◌then◌else◌, [], ◌∷◌, ◌++◌, Option, Some, None, is_some, sum_by, count_by, Result, Ok, Err}
use Rattle.mem_bytes.specs.declared.fault.StoreFault.{StoreFault}
use Rattle.mem_bytes.specs.declared.fault.StoreFault.TheVariants.{Full}
use Rattle.mem_bytes.specs.Memory.{Block, Blocks, size_of, new_block}

-- how much a store holds: the bytes of all live blocks together, and the live blocks
pub record Limit : Type 0 where
  pub bytes : ℕ
  pub blocks : ℕ

-- the bytes of a block; a dead one has none
abbrev pub bytes_in : Option Block → ℕ
bytes_in None = 0
bytes_in (Some block) = size_of block

-- the sizes of the live blocks together
abbrev pub live_bytes : Blocks → ℕ
live_bytes memory = sum_by bytes_in memory

-- how many blocks are live
abbrev pub live_blocks : Blocks → ℕ
live_blocks memory = count_by is_some memory

-- the bytes that a limit leaves beside the live blocks
abbrev pub bytes_left : Limit → Blocks → ℕ
bytes_left limit memory = limit.bytes - live_bytes memory

-- a block of so many bytes goes past a limit: with it the live blocks have too many bytes, or they
-- number as many as they may already
abbrev pub is_refused : Limit → Blocks → ℕ → Bool
is_refused limit memory need =
    nat_lt limit.bytes (live_bytes memory + need) || live_blocks memory == limit.blocks

-- a memory with one more block, which gets the next number
abbrev pub with_new_block : Blocks → ℕ → ℕ → Blocks
with_new_block memory size align = memory ++ Some (new_block size align) ∷ []

-- a block is made (6.2.4, 7.20.3), or refused under a limit
abbrev pub after_alloc : Option Limit → Blocks → ℕ → ℕ → Result Blocks StoreFault
after_alloc None memory size align = Ok (with_new_block memory size align)
after_alloc (Some limit) memory size align =
    if is_refused limit memory size
    then Err (Full size (bytes_left limit memory))
    else Ok (with_new_block memory size align)
