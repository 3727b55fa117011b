-- What a run of a crate over a store and a host is to the meaning of the crate.
use Rattle.std.specs.Prelude.{◌≡◌, ℕ, suc, ◌<◌, ◌≤◌, ℤ, true, false, List, [], ◌++◌, Option, option_map}
use Rattle.cr_base.specs.Count.{Rose}
use Rattle.cr_runs.specs.Runs.{state_of}
use Rattle.cr_world.specs.World.{World, Outside, trail_of, wrong, full, asks, first_world}
use Rattle.ext_calls.specs.declared.call.Call.{Call}
use Rattle.ext_calls.specs.Host.{HostState}
use Rattle.mem_bytes.specs.Counted.{Limit}
use Rattle.rs_mean.specs.Run.{RProgress, going, ended, stopped, ran, rs_run_on}
use Rattle.rs_text.specs.Tree.{CrateTree}
use Rattle.rs_machine.specs.States.{AreGiven, AreTaken}
use Rattle.rs_exec.specs.declared.outcome.ROutcome.{ROutcome}
use Rattle.rs_exec.specs.declared.outcome.ROutcome.TheVariants.{Ended, Wrong, StepsUsed, StoreFull, HostRefused, HostFault}

-- the outside that gives the answers of a trail
abbrev pub outside_of : List ℤ → Outside
outside_of trail = record { answers = trail }

-- how far the meaning comes under a trail of answers within a budget, over a store with this limit
abbrev pub progress_within : CrateTree → Option Limit → List ℤ → ℕ → RProgress
progress_within whole limit trail steps = (rs_run_on (trail_of limit) whole (outside_of trail) steps).progress

-- the world at which it stands then
abbrev pub world_within : CrateTree → Option Limit → List ℤ → ℕ → World
world_within whole limit trail steps = state_of (ran whole (first_world (trail_of limit) (outside_of trail)) steps)

-- an outcome is how far the meaning comes
abbrev pub IsProgress : ROutcome → RProgress → Type 0
IsProgress (Ended status) progress = progress ≡ ended status
IsProgress (Wrong why) progress = progress ≡ stopped (wrong why)
IsProgress StepsUsed progress = progress ≡ going
IsProgress (StoreFull need left) progress = progress ≡ stopped (full need left)
IsProgress (HostRefused name) progress = (call : Call) × (progress ≡ stopped (asks call)) × (call.name ≡ name)
IsProgress HostFault progress = (call : Call) × (progress ≡ stopped (asks call))

-- within so many units the meaning comes so far, and goes on within fewer
pub record IsLeast (whole : CrateTree) (limit : Option Limit) (trail : List ℤ) (outcome : ROutcome) (steps : ℕ) : Type 0 where
  pub comes : IsProgress outcome (progress_within whole limit trail steps)
  pub goes_on : (fewer : ℕ) → fewer < steps → progress_within whole limit trail fewer ≡ going

-- the last unit is one that was taken
abbrev pub TookLast : CrateTree → Option Limit → (given : ℕ) → List ℤ → ROutcome → (steps : ℕ) → Type 0
TookLast whole limit given trail outcome steps = (steps ≤ given) × IsLeast whole limit trail outcome steps

-- the next unit, that of a call, isn't told
abbrev pub TookBefore : CrateTree → Option Limit → (given : ℕ) → List ℤ → ROutcome → (steps : ℕ) → Type 0
TookBefore whole limit given trail outcome steps = (steps < given) × IsLeast whole limit trail outcome (suc steps)

-- the units that a run took: the least budget within which the meaning comes so far; the whole budget where it is used up; and where the
-- host stopped the run at a call, the units before that call
abbrev pub TookSteps : CrateTree → Option Limit → (given : ℕ) → List ℤ → ROutcome → (steps : ℕ) → Type 0
TookSteps whole limit given trail (Ended status) steps = TookLast whole limit given trail (Ended status) steps
TookSteps whole limit given trail (Wrong why) steps = TookLast whole limit given trail (Wrong why) steps
TookSteps whole limit given trail StepsUsed steps = steps ≡ given
TookSteps whole limit given trail (StoreFull need left) steps = TookLast whole limit given trail (StoreFull need left) steps
TookSteps whole limit given trail (HostRefused name) steps = TookBefore whole limit given trail (HostRefused name) steps
TookSteps whole limit given trail HostFault steps = TookBefore whole limit given trail HostFault steps

-- the call at which a run was refused isn't one that the host takes, and that at which the outside failed is one
abbrev pub AsksHost : HostState → ROutcome → RProgress → Type 0
AsksHost host (HostRefused name) (stopped (asks call)) = host.takes call ≡ false
AsksHost host HostFault (stopped (asks call)) = host.takes call ≡ true
AsksHost host outcome progress = Unit {0}

-- the outside failed only where the host counted a failure
abbrev pub HasFailed : HostState → HostState → ROutcome → Type 0
HasFailed before after HostFault = Rose before.faults after.faults
HasFailed before after outcome = Unit {0}

-- memory was wanting: within some units, at most those that were given, the run under some trail makes the calls that the host was asked for, with
-- the answers that it gave, and takes all answers of the trail
pub record IsShort (whole : CrateTree) (limit : Option Limit) (given : ℕ) (host later : HostState) : Type 0 where
  pub trail : List ℤ
  pub steps : ℕ
  pub within : steps ≤ given
  pub answers : (world_within whole limit trail steps).answers ≡ []
  pub told : later.made ≡ option_map (λ made. made ++ (world_within whole limit trail steps).made) host.made
  pub given_by : AreGiven (world_within whole limit trail steps).made host.left later.left
  pub takes : AreTaken host.takes (world_within whole limit trail steps).made
