-- What a run of a program over a store and a host is to the meaning of the program.
use Rattle.std.specs.Prelude.{◌≡◌, ℕ, suc, ◌<◌, ◌≤◌, ℤ, true, false, List, [], ◌++◌, Option, option_map}
use Rattle.cr_base.specs.Count.{Rose}
use Rattle.cr_world.specs.World.{World, trail_of}
use Rattle.cx_core.specs.Trees.{CProgram}
use Rattle.cx_mean.specs.Run.{CProgress, going, ended, undefined, is_full, asks_for, c_start, c_after, c_trailed}
use Rattle.cx_mean.specs.Settings.{setting_of}
use Rattle.cx_mean.specs.State.{CState}
use Rattle.cx_outside.specs.States.{AreGiven, AreTaken}
use Rattle.ext_calls.specs.declared.call.Call.{Call}
use Rattle.ext_calls.specs.Host.{HostState}
use Rattle.mem_bytes.specs.Counted.{Limit}
use Rattle.cx_exec.specs.declared.outcome.COutcome.{COutcome}
use Rattle.cx_exec.specs.declared.outcome.COutcome.TheVariants.{Ended, Undefined, StepsUsed, StoreFull, HostRefused, HostFault}

-- what is asked of a meaning: a program, an order, the limit of a store, and a trail of answers
pub record Ran : Type 0 where
  pub program : CProgram
  pub order : List ℕ
  pub limit : Option Limit
  pub trail : List ℤ

-- how far the meaning comes within so many steps
abbrev pub progress_within : Ran → ℕ → CProgress
progress_within ran steps = (c_trailed ran.program ran.order ran.limit ran.trail steps).progress

-- the state, and the world, in which it stands then
abbrev pub state_within : Ran → ℕ → CState
state_within ran steps =
    c_after (setting_of ran.program) steps (c_start ran.program ran.order (trail_of ran.limit) (record { answers = ran.trail }))

abbrev pub world_within : Ran → ℕ → World
world_within ran steps = (state_within ran steps).world

-- an outcome is how far the meaning comes
abbrev pub IsProgress : COutcome → CProgress → Type 0
IsProgress (Ended status) progress = progress ≡ ended status
IsProgress (Undefined rule unit line) progress = progress ≡ undefined rule unit line
IsProgress StepsUsed progress = progress ≡ going
IsProgress (StoreFull need left) progress = progress ≡ is_full need left
IsProgress (HostRefused name) progress = (call : Call) × (progress ≡ asks_for call) × (call.name ≡ name)
IsProgress HostFault progress = (call : Call) × (progress ≡ asks_for call)

-- within so many steps the meaning comes so far, and goes on within fewer
pub record IsLeast (ran : Ran) (outcome : COutcome) (steps : ℕ) : Type 0 where
  pub comes : IsProgress outcome (progress_within ran steps)
  pub goes_on : (fewer : ℕ) → fewer < steps → progress_within ran fewer ≡ going

-- the last step is one that was taken
abbrev pub TookLast : Ran → (given : ℕ) → COutcome → (steps : ℕ) → Type 0
TookLast ran given outcome steps = (steps ≤ given) × IsLeast ran outcome steps

-- the next step isn't taken: it begins an object, or makes a call
abbrev pub TookBefore : Ran → (given : ℕ) → COutcome → (steps : ℕ) → Type 0
TookBefore ran given outcome steps = (steps < given) × IsLeast ran outcome (suc steps)

-- the steps that a run took: the least bound under which the meaning comes so far; the whole bound where it is used up; and
-- where an object or a call stopped the run, the steps before it
abbrev pub TookSteps : Ran → (given : ℕ) → COutcome → (steps : ℕ) → Type 0
TookSteps ran given (Ended status) steps = TookLast ran given (Ended status) steps
TookSteps ran given (Undefined rule unit line) steps = TookLast ran given (Undefined rule unit line) steps
TookSteps ran given StepsUsed steps = steps ≡ given
TookSteps ran given (StoreFull need left) steps = TookBefore ran given (StoreFull need left) steps
TookSteps ran given (HostRefused name) steps = TookBefore ran given (HostRefused name) steps
TookSteps ran given HostFault steps = TookBefore ran given HostFault steps

-- the call at which a run was refused isn't one that the host takes, and that at which the outside failed is one
abbrev pub AsksHost : HostState → COutcome → CProgress → Type 0
AsksHost host (HostRefused name) (asks_for call) = host.takes call ≡ false
AsksHost host HostFault (asks_for call) = host.takes call ≡ true
AsksHost host outcome progress = Unit {0}

-- the outside failed only where the host counted a failure
abbrev pub HasFailed : HostState → HostState → COutcome → Type 0
HasFailed before after HostFault = Rose before.faults after.faults
HasFailed before after outcome = Unit {0}

-- all that is said of a run
pub record IsRun (ran : Ran) (given : ℕ) (host later : HostState) (outcome : COutcome) (taken : ℕ) : Type 0 where
  pub progress : IsProgress outcome (progress_within ran given)
  pub answers : (world_within ran given).answers ≡ []
  pub units : TookSteps ran given outcome taken
  pub told : later.made ≡ option_map (λ made. made ++ (world_within ran given).made) host.made
  pub given_by : AreGiven (world_within ran given).made host.left later.left
  pub takes : AreTaken host.takes (world_within ran given).made
  pub asks : AsksHost host outcome (progress_within ran given)
  pub failed : HasFailed host later outcome

-- memory was wanting: within some steps, at most those that were given, the run under some trail makes the calls that the host was asked for, with
-- the answers that it gave, and takes all answers of the trail
pub record IsShort (program : CProgram) (order : List ℕ) (limit : Option Limit) (given : ℕ) (host later : HostState) : Type 0 where
  pub trail : List ℤ
  pub steps : ℕ
  pub within : steps ≤ given
  pub answers : (world_within (record { program = program; order = order; limit = limit; trail = trail }) steps).answers ≡ []
  pub told : later.made ≡ option_map (λ made. made ++ (world_within (record { program = program; order = order; limit = limit; trail = trail }) steps).made) host.made
  pub given_by : AreGiven (world_within (record { program = program; order = order; limit = limit; trail = trail }) steps).made host.left later.left
  pub takes : AreTaken host.takes (world_within (record { program = program; order = order; limit = limit; trail = trail }) steps).made
