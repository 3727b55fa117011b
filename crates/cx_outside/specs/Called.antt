-- What calls of functions come to that no unit defines.
use Rattle.std.specs.Prelude.{◌≡◌, ℤ, List, Result, Ok, Err}
use Rattle.cr_base.specs.declared.refusal.Place.{Place}
use Rattle.cr_base.specs.declared.rule.URule.{URule}
use Rattle.cr_world.specs.Known.{Known, effect}
use Rattle.cr_world.specs.World.{World}
use Rattle.cx_access.specs.declared.trouble.Trouble.{Trouble}
use Rattle.cx_access.specs.declared.trouble.Trouble.TheVariants as trouble
use Rattle.cx_mean.specs.Calls.{returns_value, ends_with, COutcome, by_effect}
use Rattle.cx_mean.specs.Operands.{CStop, breaks, stops}
use Rattle.cx_outside.specs.Comes.{Comes, Lacks}
use Rattle.cx_outside.specs.States.{Around, Quiet, world_at}
use Rattle.cx_outside.specs.declared.calls.Halt.{Halt}
use Rattle.cx_outside.specs.declared.calls.Halt.TheVariants as halt
use Rattle.cx_outside.specs.declared.calls.Returned.{Returned}
use Rattle.cx_outside.specs.declared.calls.Returned.TheVariants as returned
use Rattle.cx_outside.specs.declared.outside.Lack.{Lack}
use Rattle.cx_outside.specs.declared.outside.Lack.TheVariants as lack
use Rattle.cx_work.specs.Views.{view_finished}
use Rattle.ext_calls.specs.declared.call.Made.{Made}
use Rattle.mem_bytes.specs.declared.value.Value.{Value}
use Rattle.cx_work.specs.declared.operand.Finished.TheVariants as held

-- ---- parts

-- a trouble at a place
abbrev pub IsHalt : Trouble → Place → Halt → Type 0
IsHalt (trouble.Undefined rule) place one = one ≡ halt.Undefined rule place
IsHalt trouble.Memory place one = one ≡ halt.Lacks lack.Memory

-- the program ends with a status
abbrev pub Ends : Result Returned Halt → ℤ → Type 0
Ends (Ok (returned.Ends one)) status = one ≡ status
Ends (Ok (returned.Gives value)) status = ⊥
Ends (Err (halt.Undefined rule place)) status = ⊥
Ends (Err (halt.Lacks why)) status = why ≡ lack.Memory

-- the value of an allocation
abbrev pub Granted : Result Value Lack → Result Returned Halt → Type 0
Granted (Ok value) result = result ≡ Ok (returned.Gives (held.Scalar value))
Granted (Err why) result = result ≡ Err (halt.Lacks why)

-- ---- calls

-- a step that is undefined
pub record IsUndefined {B : Type 0} (piece : World → Result B CStop) (rule : URule) (place : Place) (before after : Around) : Type 0 where
  pub quiet : Quiet before after
  pub stops : (made : List Made) (ahead : List ℤ) → piece (world_at before made ahead) ≡ Err (stops (breaks rule) place)

-- the program ends with a status, and nothing was taken
pub record IsEnded (piece : World → COutcome) (status : ℤ) (before after : Around) : Type 0 where
  pub quiet : Quiet before after
  pub ends : (made : List Made) (ahead : List ℤ) → piece (world_at before made ahead) ≡ Ok (ends_with status (world_at before made ahead))

-- what came of a call
abbrev pub Calls : (World → COutcome) → Result Returned Halt → Around → Around → Type 0
Calls piece (Ok (returned.Gives value)) before after = Comes piece (λ world. Ok (returns_value (view_finished value) world)) before after
Calls piece (Ok (returned.Ends status)) before after = IsEnded piece status before after
Calls piece (Err (halt.Undefined rule place)) before after = IsUndefined piece rule place before after
Calls piece (Err (halt.Lacks why)) before after = Lacks piece why before after

-- a call of a function of the library with these arguments
abbrev pub library_piece : Known → Place → List Value → World → COutcome
library_piece does place values world = by_effect place world (effect does values world.held)
