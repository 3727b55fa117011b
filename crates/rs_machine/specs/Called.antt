-- What calls of external functions come to.
use Rattle.std.specs.Prelude.{◌≡◌, ℕ, ℤ, pos, true, List, Result, Ok, Err}
use Rattle.cr_world.specs.Held.{Held}
use Rattle.cr_world.specs.Known.{Effect, gives, gives_nothing, ends_program, wants_block, fails, copying}
use Rattle.mem_bytes.specs.Memory.{Blocks}
use Rattle.mem_bytes.specs.declared.value.Value.{Value}
use Rattle.mem_bytes.specs.declared.value.Value.TheVariants.{Whole}
use Rattle.rs_mean.specs.declared.cause.Cause.{Cause}
use Rattle.rs_mean.specs.declared.cause.Cause.TheVariants.{WrongCall}
use Rattle.rs_mean.specs.World.{Did, cause_of_held}
use Rattle.rs_value.specs.declared.trouble.Trouble.{Trouble}
use Rattle.rs_value.specs.declared.trouble.Trouble.TheVariants as trouble
use Rattle.rs_machine.specs.Does.{Stopped, ended, went_wrong, no_units, store_full, refused, failed, no_memory}

-- a program stopped by its end with a status
abbrev pub EndsBy : Stopped → ℤ → Type 0
EndsBy (ended one) status = one ≡ status
EndsBy no_memory status = Unit {0}
EndsBy (went_wrong why) status = ⊥
EndsBy no_units status = ⊥
EndsBy (store_full need left) status = ⊥
EndsBy (refused name) status = ⊥
EndsBy failed status = ⊥

-- ---- copies

abbrev pub copies_as : Effect → Result (Did (Unit {0})) Cause
copies_as (gives value held) = Ok (record { value = tt; held = held })
copies_as (gives_nothing held) = Ok (record { value = tt; held = held })
copies_as (ends_program status) = Err WrongCall
copies_as (wants_block is_zero size) = Err WrongCall
copies_as (fails why) = Err (cause_of_held why)

abbrev pub copy_of : Value → Value → Value → Held → Result (Did (Unit {0})) Cause
copy_of from to (Whole (pos count)) held = copies_as (copying true to from count held)
copy_of from to _ held = Err WrongCall

-- a copy changes blocks as it should, or nothing
abbrev pub CopiesTo : Result (Unit {0}) Trouble → (Held → Result (Did (Unit {0})) Cause) → Blocks → Blocks → Type 0
CopiesTo (Ok _) step before after =
    (heap : List ℕ) → step (record { blocks = before; heap = heap }) ≡ Ok (record { value = tt; held = record { blocks = after; heap = heap } })
CopiesTo (Err (trouble.Wrong why)) step before after =
    ((heap : List ℕ) → step (record { blocks = before; heap = heap }) ≡ Err why) × (after ≡ before)
CopiesTo (Err trouble.Memory) step before after = Unit {0}
