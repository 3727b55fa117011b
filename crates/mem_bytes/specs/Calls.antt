-- What the calls of a store take, and what they do with its memory.
use Rattle.std.specs.Prelude.{◌≡◌, ℕ, ◌≤◌, ◌<◌, ◌||◌, ◌==◌, IsTrue, length, Result, Ok, Err}
use Rattle.mem_bytes.specs.declared.cell.Cell.{Cell}
use Rattle.mem_bytes.specs.declared.cell.Cell.TheVariants.{Bits, PtrByte}
use Rattle.mem_bytes.specs.declared.fault.Fault.{Fault}
use Rattle.mem_bytes.specs.declared.fault.StoreFault.{StoreFault}
use Rattle.mem_bytes.specs.declared.fault.StoreFault.TheVariants.{Full, Memory}
use Rattle.mem_bytes.specs.declared.value.Value.{Value}
use Rattle.mem_bytes.specs.declared.value.Value.TheVariants.{Whole, Null, Object, Code}
use Rattle.mem_bytes.specs.Memory.{Blocks}

-- a size that a block may have, in bytes
abbrev pub IsBlockSize : ℕ → Type 0
IsBlockSize size = size ≤ 16777216

-- an alignment that a block may have, in bytes
abbrev pub IsAlignment : ℕ → Type 0
IsAlignment align = IsTrue (align == 1 || align == 2 || align == 4 || align == 8 || align == 16)

-- a place of a bit-field: the bit of the first byte at which it begins, and its width in bits
pub record IsFieldPlace (bit width : ℕ) : Type 0 where
  pub bit_in_byte : bit < 8
  pub not_empty : 1 ≤ width
  pub not_too_wide : width ≤ 32

-- a pointer that isn't null
abbrev pub IsPointer : Value → Type 0
IsPointer (Object at) = Unit {0}
IsPointer (Code f) = Unit {0}
IsPointer (Whole n) = ⊥
IsPointer Null = ⊥

-- a cell that memory may hold: a pointer's byte is one of the eight of a pointer that isn't null
abbrev pub IsCell : Cell → Type 0
IsCell (Bits value set) = Unit {0}
IsCell (PtrByte of index) = IsPointer of × (index < 8)

-- a call that answers no more than a fault had this outcome: where it answers none, what it changes
-- is the outcome's; where it answers a fault, the outcome is that fault, and nothing changed
abbrev pub Does : {A X : Type 0} → Result A Fault → X → X → Result X Fault → Type 0
Does (Ok _) before after outcome = outcome ≡ Ok after
Does (Err fault) before after outcome = (outcome ≡ Err fault) × (after ≡ before)

-- a call that makes a block had this outcome: where it answers a number, it is the next number, and
-- the memory is the outcome's; where it is full, so is the outcome; after any fault nothing changed.
-- Want of memory may come in the place of any outcome
abbrev pub Allocates : Result ℕ StoreFault → Blocks → Blocks → Result Blocks StoreFault → Type 0
Allocates (Ok number) before after outcome = (number ≡ length before) × (outcome ≡ Ok after)
Allocates (Err (Full need left)) before after outcome =
    (outcome ≡ Err (Full need left)) × (after ≡ before)
Allocates (Err Memory) before after outcome = after ≡ before
