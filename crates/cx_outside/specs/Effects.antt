-- What calls of functions of the library do, as the code finds it.
use Rattle.std.specs.Prelude.{◌≡◌, ◌+◌, nat_le, not, Bool, ℕ, true, false, List, [], ◌∷◌, Option, Some, None, Result, Ok, Err, codes}
use Rattle.cr_world.specs.Held.{Held}
use Rattle.cr_world.specs.Known.{allocates, frees, copies, fills, exits, aborts, KnownFunction, known, no_value, int_value, size_value, to_bytes, to_const_bytes, Effect, gives, gives_nothing, ends_program, wants_block, fails}
use Rattle.cx_mean.specs.Operands.{CWhy, breaks, why_held}
use Rattle.cr_base.specs.declared.rule.URule.{URule}
use Rattle.cr_base.specs.declared.rule.URule.TheVariants.{U5, U6, U16}
use Rattle.mem_bytes.specs.Memory.{Block, Blocks, size_of}
use Rattle.cx_outside.specs.States.{KeptState}
use Rattle.cx_outside.specs.declared.library.Done.{Done}
use Rattle.cx_outside.specs.declared.library.Done.TheVariants as done
use Rattle.cx_outside.specs.declared.library.Library.{Library}
use Rattle.cx_outside.specs.declared.library.Library.TheVariants as library
use Rattle.cx_access.specs.declared.trouble.Trouble.{Trouble}
use Rattle.cx_access.specs.declared.trouble.Trouble.TheVariants as trouble

abbrev pub library_view : Library → KnownFunction
library_view library.Malloc = known (codes "malloc") (allocates false) to_bytes (size_value ∷ [])
library_view library.Calloc = known (codes "calloc") (allocates true) to_bytes (size_value ∷ size_value ∷ [])
library_view library.Free = known (codes "free") frees no_value (to_bytes ∷ [])
library_view library.Memcpy = known (codes "memcpy") (copies false) to_bytes (to_bytes ∷ to_const_bytes ∷ size_value ∷ [])
library_view library.Memmove = known (codes "memmove") (copies true) to_bytes (to_bytes ∷ to_const_bytes ∷ size_value ∷ [])
library_view library.Memset = known (codes "memset") fills to_bytes (to_bytes ∷ int_value ∷ size_value ∷ [])
library_view library.Exit = known (codes "exit") exits no_value (int_value ∷ [])
library_view library.Abort = known (codes "abort") aborts no_value []

-- what is held
abbrev pub held_of : KeptState → Blocks → Held
held_of kept blocks = record { blocks = blocks; heap = kept.heap }

-- what is wrong with a call
abbrev pub fault_in : Effect → Option CWhy
fault_in (gives value held) = None
fault_in (gives_nothing held) = None
fault_in (ends_program status) = None
fault_in (wants_block is_zero size) = None
fault_in (fails fault) = Some (why_held fault)

-- the effect of a call is what was done
abbrev pub Effects : Result Done Trouble → Effect → Held → Held → Type 0
Effects (Ok (done.Gives value)) effect before after = effect ≡ gives value after
Effects (Ok done.Nothing) effect before after = effect ≡ gives_nothing after
Effects (Ok (done.Ends status)) effect before after = (effect ≡ ends_program status) × (after ≡ before)
Effects (Ok (done.Wants is_zero size)) effect before after = (effect ≡ wants_block is_zero size) × (after ≡ before)
Effects (Err (trouble.Undefined rule)) effect before after = (fault_in effect ≡ Some (breaks rule)) × (after ≡ before)
Effects (Err trouble.Memory) effect before after = Unit {0}

-- the same, where nothing is changed but blocks
abbrev pub BlocksEffects : Result Done Trouble → (Held → Effect) → Blocks → Blocks → Type 0
BlocksEffects result effect before after = (heap : List ℕ) → Effects result (effect (record { blocks = before; heap = heap })) (record { blocks = before; heap = heap }) (record { blocks = after; heap = heap })

-- so many bytes from an offset on leave a block, as those of a dead one do
abbrev pub leaves : Option Block → (offset count : ℕ) → Bool
leaves None offset count = true
leaves (Some block) offset count = not (nat_le (offset + count) (size_of block))

-- what is wrong with a copy between bytes of one block that overlap
abbrev pub over_rule : Option Block → (source_leaves target_leaves : Bool) → URule
over_rule None source target = U5
over_rule (Some block) true target = U6
over_rule (Some block) false true = U6
over_rule (Some block) false false = U16
