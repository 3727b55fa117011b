-- How the live blocks lie in the region: end to end, in the order of their numbers.
use Rattle.std.specs.Prelude.{◌≡◌, ◌≢◌, ℕ, suc, ◌+◌, ◌-◌, ◌%◌, ◌^◌, ◌<◌, ◌≤◌, ◌&&◌, ◌==◌, nat_le, if◌then◌else◌, List, [], ◌∷◌, ◌++◌, length, map, take, drop, replicate, slice_index_or, Option, Some, None, ok_or, Result, Ok, Err}
use Rattle.cr_base.specs.declared.scalar.Scalar.{Scalar}
use Rattle.mem_bytes.specs.declared.cell.Cell.{Cell}
use Rattle.mem_bytes.specs.declared.fault.Fault.{Fault}
use Rattle.mem_bytes.specs.declared.fault.Fault.TheVariants.{Dead, Outside, Misaligned}
use Rattle.mem_bytes.specs.declared.value.Ptr.{Ptr}
use Rattle.mem_bytes.specs.Access.{and_then}
use Rattle.mem_bytes.specs.Coding.{scalar_size}
use Rattle.mem_bytes.specs.Memory.{Block, Blocks}
use Rattle.mem_region.specs.declared.table.CopyPlaces.{CopyPlaces}
use Rattle.mem_region.specs.declared.table.Live.{Live}

-- the blocks with the numbers from one on and below `next`, where a table names the live ones and their
-- cells lie end to end
abbrev pub blocks_from : ℕ → ℕ → List Live → List Cell → Blocks
blocks_from number next [] cells = replicate (next - number) None
blocks_from number next (live ∷ others) cells =
    replicate (live.number - number) None
    ++ Some (record { align = live.align; cells = take live.size cells })
    ∷ blocks_from (suc live.number) next others (drop live.size cells)

-- a table's blocks have rising numbers, from one on and below `next`, and lie end to end from `start` to `end`
abbrev pub AreLaid : ℕ → ℕ → ℕ → ℕ → List Live → Type 0
AreLaid number next start end [] = (number ≤ next) × (start ≡ end)
AreLaid number next start end (live ∷ others) =
    (number ≤ live.number)
    × (live.start ≡ start)
    × AreLaid (suc live.number) next (start + live.size) end others

-- a table of blocks that lie in the region, which has fewer bytes than a machine's number holds
pub record IsTable (table : List Live) : Type 0 where
  pub next : ℕ
  pub end : ℕ
  pub laid : AreLaid 0 next 0 end table
  pub fits : end < 2 ^ 62

-- no block of a table has the number
abbrev pub NoneHas : List Live → ℕ → Type 0
NoneHas table number =
    (k : ℕ) (d : Live) → k < length table → (slice_index_or table k d).number ≢ number

-- the block at an index of a table has the number
pub record HasAt (table : List Live) (number index : ℕ) : Type 0 where
  pub within : index < length table
  pub same : (d : Live) → (slice_index_or table index d).number ≡ number

-- a table has a block with the number
pub record Has (table : List Live) (number : ℕ) (live : Live) : Type 0 where
  pub before : List Live
  pub after : List Live
  pub parts : table ≡ before ++ live ∷ after
  pub same : live.number ≡ number
  pub fits : live.start + live.size < 2 ^ 62

-- the live block with a number; Dead where there is none
abbrev pub lookup : List Live → ℕ → Option Live
lookup [] number = None
lookup (live ∷ others) number = if live.number == number then Some live else lookup others number

abbrev pub found : List Live → ℕ → Result Live Fault
found table number = ok_or (lookup table number) Dead

-- the block of a live one, where all cells of the region are given
abbrev pub block_of : Live → List Cell → Block
block_of live cells = record { align = live.align; cells = take live.size (drop live.start cells) }

-- where so many cells of a live block from an offset on begin; Outside where they leave it
abbrev pub placed : Live → ℕ → ℕ → Result ℕ Fault
placed live offset count =
    if nat_le (offset + count) live.size then Ok (live.start + offset) else Err Outside

-- where a scalar of a live block begins; Misaligned where it may not stand there
abbrev pub scalar_placed : Live → ℕ → Scalar → Result ℕ Fault
scalar_placed live offset scalar =
    and_then (placed live offset (scalar_size scalar)) (λ start.
    if offset % scalar_size scalar == 0 && nat_le (scalar_size scalar) live.align
    then Ok start
    else Err Misaligned)

-- where so many cells at a place begin
abbrev pub place_at : List Live → Ptr → ℕ → Result ℕ Fault
place_at table at count = and_then (found table at.block) (λ live. placed live at.offset count)

-- where a scalar at a place begins
abbrev pub scalar_place_at : List Live → Ptr → Scalar → Result ℕ Fault
scalar_place_at table at scalar =
    and_then (found table at.block) (λ live. scalar_placed live at.offset scalar)

-- where so many cells at one place begin, and where they are copied to
abbrev pub copy_places_at : List Live → Ptr → Ptr → ℕ → Result CopyPlaces Fault
copy_places_at table from to count =
    and_then (found table from.block) (λ source.
    and_then (found table to.block) (λ target.
    and_then (placed source from.offset count) (λ start.
    and_then (placed target to.offset count) (λ place. Ok (record { from = start; to = place })))))

-- the blocks of a table, so many bytes nearer to the region's start
abbrev pub slid : ℕ → List Live → List Live
slid bytes table = map (λ (live : Live). record live { start = live.start - bytes }) table

-- no block of a table begins nearer to the region's start than so many bytes
abbrev pub StartPast : ℕ → List Live → Type 0
StartPast bytes table =
    (k : ℕ) (d : Live) → k < length table → bytes ≤ (slice_index_or table k d).start
