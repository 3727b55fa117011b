-- What calls of functions that no unit defines leave of a typed program (ISO C99, 6.5.2.2, 7.20.3, 7.20.4 and 7.21).
use Rattle.std.specs.Prelude.{◌≡◌, ℕ, ◌<◌, ◌≤◌, false, length, Ok, Err}
use Rattle.cr_world.specs.Held.{Held, is_listed}
use Rattle.cr_world.specs.World.{World, wrong, full, asks, astray, blocks_of}
use Rattle.cx_core.specs.Trees.{CTy, COuter, CProgram}
use Rattle.cx_mean.specs.Calls.{external, CCalled, COutcome, returns_value, ends_with, external_call}
use Rattle.cx_mean.specs.Operands.{CStop}
use Rattle.cx_mean.specs.Settings.{setting_of}
use Rattle.mem_bytes.specs.Memory.{live_block}
use Rattle.cx_typed_work.specs.Calls.{IsTypedCall, IsReturned}
use Rattle.cx_typed_work.specs.Scenes.{IsTypedMemory, IsSameShape}
use Rattle.cx_typed_work.specs.Steps.{IsRule}

-- Blocks that no allocation gave live on, as large and as aligned as they were, and don't become allocated ones; their numbers aren't
-- used again (6.2.4, 7.20.3)
pub record KeepsObjects (before after : Held) : Type 0 where
  pub grows : length before.blocks ≤ length after.blocks
  pub lives : (number : ℕ) → number < length before.blocks → is_listed number before.heap ≡ false → IsSameShape (live_block before.blocks number) (live_block after.blocks number)
  pub not_allocated : (number : ℕ) → number < length before.blocks → is_listed number before.heap ≡ false → is_listed number after.heap ≡ false

-- a call goes no further where it breaks a rule, or, under a trail, where the outside has no answer or not the store's to it
abbrev pub GoesNoFurther : CStop → Type 0
GoesNoFurther (wrong fault) = IsRule fault.why
GoesNoFurther (full need left) = Unit {0}
GoesNoFurther (asks call) = Unit {0}
GoesNoFurther astray = Unit {0}

-- what a call of a type leaves: a value of it, or none, in a typed memory; or the program ends, or the call goes no further
abbrev pub CallLeaves : CProgram → CTy → Held → COutcome → Type 0
CallLeaves program type before (Ok (returns_value value after)) = IsReturned program type value × IsTypedMemory program (blocks_of after) × KeepsObjects before after.held
CallLeaves program type before (Ok (ends_with status after)) = Unit {0}
CallLeaves program type before (Err stop) = GoesNoFurther stop

-- Law: what a typed program calls and no unit defines gives typed values, and is never stuck
abbrev pub ExternalCallsGiveTyped : Type 0
ExternalCallsGiveTyped = (program : CProgram) (called : CCalled) (callee : COuter) (world : World) → IsTypedCall program called → called.callee ≡ external callee → IsTypedMemory program (blocks_of world)
    → CallLeaves program called.type world.held (external_call (setting_of program) called callee world)
