-- Loads and stores, and the bytes of texts, over the blocks alone.
use Rattle.std.specs.Prelude.{◌≡◌, ◌==◌, ◌+◌, nat_le, if◌then◌else◌, ℕ, Option, Some, None, Result, Ok, Err}
use Rattle.cr_base.specs.declared.scalar.Scalar.{Scalar}
use Rattle.mem_bytes.specs.Coding.{scalar_size}
use Rattle.mem_bytes.specs.declared.cell.Cell.{Cell}
use Rattle.mem_bytes.specs.declared.cell.Cell.TheVariants.{Bits, PtrByte}
use Rattle.mem_bytes.specs.declared.fault.Fault.{Fault}
use Rattle.mem_bytes.specs.declared.fault.Fault.TheVariants as fault
use Rattle.mem_bytes.specs.declared.store.BlockState.{BlockState}
use Rattle.mem_bytes.specs.Memory.{Blocks, block_state}
use Rattle.mem_bytes.specs.declared.value.Ptr.{Ptr}
use Rattle.mem_bytes.specs.declared.value.Value.{Value}
use Rattle.rs_mean.specs.declared.cause.Cause.{Cause}
use Rattle.rs_mean.specs.declared.cause.Cause.TheVariants as cause
use Rattle.rs_mean.specs.Calls.{Spot, loaded_as, stored_as, with_type}
use Rattle.rs_mean.specs.Scalars.{scalar_of}
use Rattle.rs_mean.specs.Values.{Typed}
use Rattle.rs_mean.specs.World.{cause_of}
use Rattle.rs_value.specs.declared.trouble.Trouble.{Trouble}
use Rattle.rs_value.specs.declared.trouble.Trouble.TheVariants as trouble

-- ---- loads

-- the value that a place holds
abbrev pub loaded : Blocks → Spot → Result Typed Cause
loaded blocks place = with_type place.ty (loaded_as blocks place.is_based (scalar_of place.ty) place.at)

-- ---- stores

-- what a store finds at a place whose base isn't aligned, by what is told of the block
abbrev pub unbased_in : (offset size : ℕ) → Option BlockState → Fault
unbased_in offset size None = fault.Dead
unbased_in offset size (Some state) =
    if state.live then (if nat_le (offset + size) state.size then fault.Misaligned else fault.Outside) else fault.Dead

abbrev pub unbased : Blocks → Ptr → Scalar → Fault
unbased blocks at scalar = unbased_in at.offset (scalar_size scalar) (block_state blocks at.block)

-- the blocks after a value was stored at a place
abbrev pub stored : Blocks → Spot → Value → Result Blocks Cause
stored blocks place value = stored_as blocks place.is_based (scalar_of place.ty) place.at value

-- a step changes blocks as it should, or nothing
abbrev pub Changes : Result (Unit {0}) Trouble → Blocks → Blocks → Result Blocks Cause → Type 0
Changes (Ok _) before after outcome = outcome ≡ Ok after
Changes (Err (trouble.Wrong why)) before after outcome = (outcome ≡ Err why) × (after ≡ before)
Changes (Err trouble.Memory) before after outcome = Unit {0}

-- ---- bytes of texts

-- the byte of a cell, of which all bits have to be set
abbrev pub byte_in : Result Cell Fault → Result ℕ Cause
byte_in (Ok (Bits value set)) = if set == 255 then Ok value else Err cause.Unset
byte_in (Ok (PtrByte of index)) = Err cause.MixedPointer
byte_in (Err fault) = Err (cause_of fault)
