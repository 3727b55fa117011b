-- Blocks that begin and end.
use Rattle.std.specs.Prelude.{◌≡◌, ℕ, Bool, Option, Result, Ok, Err, length}
use Rattle.cr_world.specs.Held.{fresh_block, with_block}
use Rattle.mem_bytes.specs.Counted.{Limit, after_alloc}
use Rattle.mem_bytes.specs.Memory.{Blocks}
use Rattle.mem_bytes.specs.declared.fault.StoreFault.{StoreFault}
use Rattle.mem_bytes.specs.declared.fault.StoreFault.TheVariants.{Full, Memory}
use Rattle.mem_bytes.specs.declared.value.Ptr.{Ptr}

-- the place at which a block begins
abbrev pub place_of : ℕ → Ptr
place_of block = record { block = block; offset = 0 }

-- a block was made under a limit, with its bytes 0 or unset; where it is refused, nothing changed
abbrev pub Begins : Result ℕ StoreFault → (is_zero : Bool) → (size align : ℕ) → Option Limit → Blocks → Blocks → Type 0
Begins (Ok block) is_zero size align limit before after =
    (block ≡ length before) × (after ≡ with_block (fresh_block is_zero size align) before)
    × ((made : Blocks) × (after_alloc limit before size align ≡ Ok made))
Begins (Err (Full need left)) is_zero size align limit before after =
    (after_alloc limit before size align ≡ Err (Full need left)) × (after ≡ before)
Begins (Err Memory) is_zero size align limit before after = Unit {0}
