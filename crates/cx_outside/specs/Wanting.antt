-- Want of memory in a step: what the host was asked for then.
use Rattle.std.specs.Prelude.{◌≡◌, ◌⊎◌, ℤ, List, [], ◌++◌, Option, Some, None, option_map, Result, Ok, Err}
use Rattle.cr_world.specs.World.{World, Got}
use Rattle.cx_mean.specs.Calls.{CReturn, returns_value, ends_with, COutcome}
use Rattle.cx_mean.specs.Operands.{CStop}
use Rattle.cx_outside.specs.States.{AreGiven, AreTaken, Around, world_at}
use Rattle.cx_outside.specs.declared.calls.Halt.{Halt}
use Rattle.cx_outside.specs.declared.calls.Halt.TheVariants as halt
use Rattle.cx_outside.specs.declared.calls.Returned.{Returned}
use Rattle.cx_outside.specs.declared.outside.Lack.{Lack}
use Rattle.cx_outside.specs.declared.outside.Lack.TheVariants as lack
use Rattle.ext_calls.specs.declared.call.Made.{Made}
use Rattle.ext_calls.specs.Host.{HostState}

-- no call was made at the host
pub record HostKept (before after : HostState) : Type 0 where
  pub made : after.made ≡ before.made
  pub left : after.left ≡ before.left
  pub takes : after.takes ≡ before.takes

-- a piece comes to a world with these calls, and no answer is ahead there
abbrev pub HasMade : List Made → Option World → Type 0
HasMade made None = ⊥
HasMade made (Some world) = (world.made ≡ made) × (world.answers ≡ [])

-- calls were made at the host, and the piece makes them with its answers
pub record HostCalled (piece : World → Option World) (before after : Around) : Type 0 where
  pub answers : List ℤ
  pub calls : List Made
  pub told : after.host.made ≡ option_map (λ made. made ++ calls) before.host.made
  pub given : AreGiven calls before.host.left after.host.left
  pub taken_by : AreTaken before.host.takes calls
  pub takes : after.host.takes ≡ before.host.takes
  pub shows : (made : List Made) → HasMade (made ++ calls) (piece (world_at before made answers))

-- memory was wanting in a piece: the host was asked for nothing, or for what the piece asks
abbrev pub Wants : (World → Option World) → Around → Around → Type 0
Wants piece before after = HostKept before.host after.host ⊎ HostCalled piece before after

-- ---- of steps of a world, and of calls

-- the world to which a step comes, if it comes to one
abbrev pub world_got : {A : Type 0} → Result (Got A) CStop → Option World
world_got (Ok one) = Some one.world
world_got (Err why) = None

abbrev pub world_returned : CReturn → World
world_returned (returns_value value world) = world
world_returned (ends_with status world) = world

abbrev pub world_called : COutcome → Option World
world_called (Ok one) = Some (world_returned one)
world_called (Err why) = None

-- where a step lacks memory
abbrev pub StepWants : {A B : Type 0} → (World → Result (Got A) CStop) → Result B Lack → Around → Around → Type 0
StepWants piece (Err lack.Memory) before after = Wants (λ world. world_got (piece world)) before after
StepWants piece result before after = Unit {0}

-- where a call does
abbrev pub CallWants : (World → COutcome) → Result Returned Halt → Around → Around → Type 0
CallWants piece (Err (halt.Lacks lack.Memory)) before after = Wants (λ world. world_called (piece world)) before after
CallWants piece result before after = Unit {0}
