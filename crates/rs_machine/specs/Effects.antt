-- What calls of functions of the library do, as the code finds it.
use Rattle.std.specs.Prelude.{◌≡◌, ◌+◌, nat_le, not, Bool, ℕ, ℤ, pos, negsuc, true, false, List, [], ◌∷◌, Option, Some, None, Result, Ok, Err, codes}
use Rattle.cr_world.specs.Held.{Held}
use Rattle.cr_world.specs.Known.{allocates, frees, copies, fills, exits, aborts, KnownFunction, known, no_value, int_value, size_value, to_bytes, to_const_bytes, Effect, gives, gives_nothing, ends_program, wants_block, fails}
use Rattle.mem_bytes.specs.Memory.{Block, Blocks, size_of}
use Rattle.mem_bytes.specs.declared.value.Value.{Value}
use Rattle.rs_mean.specs.declared.cause.Cause.{Cause}
use Rattle.rs_mean.specs.declared.cause.Cause.TheVariants.{WrongCall, Dead, Outside, Overlap}
use Rattle.rs_mean.specs.Values.{Typed, typed}
use Rattle.rs_mean.specs.World.{cause_of_held}
use Rattle.rs_text.specs.Tree.{Ty}
use Rattle.rs_value.specs.declared.trouble.Trouble.{Trouble}
use Rattle.rs_value.specs.declared.trouble.Trouble.TheVariants as trouble
use Rattle.rs_value.specs.declared.typed.TypedValue.{TypedValue}
use Rattle.rs_machine.specs.States.{Kept}
use Rattle.rs_machine.specs.declared.library.Done.{Done}
use Rattle.rs_machine.specs.declared.library.Done.TheVariants as done
use Rattle.rs_machine.specs.declared.library.Library.{Library}
use Rattle.rs_machine.specs.declared.library.Library.TheVariants as library

abbrev pub library_view : Library → KnownFunction
library_view library.Malloc = known (codes "malloc") (allocates false) to_bytes (size_value ∷ [])
library_view library.Calloc = known (codes "calloc") (allocates true) to_bytes (size_value ∷ size_value ∷ [])
library_view library.Free = known (codes "free") frees no_value (to_bytes ∷ [])
library_view library.Memcpy = known (codes "memcpy") (copies false) to_bytes (to_bytes ∷ to_const_bytes ∷ size_value ∷ [])
library_view library.Memmove = known (codes "memmove") (copies true) to_bytes (to_bytes ∷ to_const_bytes ∷ size_value ∷ [])
library_view library.Memset = known (codes "memset") fills to_bytes (to_bytes ∷ int_value ∷ size_value ∷ [])
library_view library.Exit = known (codes "exit") exits no_value (int_value ∷ [])
library_view library.Abort = known (codes "abort") aborts no_value []

-- what is held
abbrev pub held_of : Kept → Blocks → Held
held_of kept blocks = record { blocks = blocks; heap = kept.heap }

abbrev pub value_in : TypedValue → Value
value_in one = one.value

-- what is wrong with a call
abbrev pub fault_in : Effect → Option Cause
fault_in (gives value held) = None
fault_in (gives_nothing held) = None
fault_in (ends_program status) = None
fault_in (wants_block is_zero size) = None
fault_in (fails fault) = Some (cause_of_held fault)

-- the effect of a call is what was done
abbrev pub Effects : Result Done Trouble → Effect → Held → Held → Type 0
Effects (Ok (done.Gives value)) effect before after = effect ≡ gives value after
Effects (Ok done.Nothing) effect before after = effect ≡ gives_nothing after
Effects (Ok (done.Ends status)) effect before after = (effect ≡ ends_program status) × (after ≡ before)
Effects (Ok (done.Wants is_zero size)) effect before after = (effect ≡ wants_block is_zero size) × (after ≡ before)
Effects (Err (trouble.Wrong why)) effect before after = (fault_in effect ≡ Some why) × (after ≡ before)
Effects (Err trouble.Memory) effect before after = Unit {0}

-- the same, where nothing is changed but blocks
abbrev pub BlocksEffects : Result Done Trouble → (Held → Effect) → Blocks → Blocks → Type 0
BlocksEffects result effect before after = (heap : List ℕ) → Effects result (effect (record { blocks = before; heap = heap })) (record { blocks = before; heap = heap }) (record { blocks = after; heap = heap })

-- what a function gives of a value
abbrev pub given : Option Ty → Value → Option Typed
given None value = None
given (Some ty) value = Some (typed ty value)

-- a number of bytes
abbrev pub IsNatural : Result ℕ Trouble → ℤ → Type 0
IsNatural (Ok n) number = number ≡ pos n
IsNatural (Err (trouble.Wrong why)) number = (why ≡ WrongCall) × ((n : ℕ) × (number ≡ negsuc n))
IsNatural (Err trouble.Memory) number = Unit {0}

-- so many bytes from an offset on leave a block, as those of a dead one do
abbrev pub leaves : Option Block → (offset count : ℕ) → Bool
leaves None offset count = true
leaves (Some block) offset count = not (nat_le (offset + count) (size_of block))

-- what is wrong with a copy between bytes of one block that overlap
abbrev pub over_cause : Option Block → (source_leaves target_leaves : Bool) → Cause
over_cause None source target = Dead
over_cause (Some block) true target = Outside
over_cause (Some block) false true = Outside
over_cause (Some block) false false = Overlap
