-- How a run of a whole crate ended, as its engine holds it.
use Rattle.std.specs.Prelude.{◌≡◌, ℕ, ◌+◌, ◌-◌, [], Option}
use Rattle.cr_world.specs.Held.{nothing_held}
use Rattle.ext_calls.specs.Host.{HostState}
use Rattle.mem_bytes.specs.Counted.{Limit}
use Rattle.rs_mean.specs.Laws.{bodies_of}
use Rattle.rs_mean.specs.Run.{run_main}
use Rattle.rs_text.specs.Tree.{CrateTree}
use Rattle.rs_machine.specs.Does.{Stopped, ended, went_wrong, no_units, store_full, refused, failed, no_memory, stops, Does}
use Rattle.rs_machine.specs.States.{State}
use Rattle.rs_exec.specs.declared.outcome.ROutcome.{ROutcome}
use Rattle.rs_exec.specs.declared.outcome.ROutcome.TheVariants.{Ended, Wrong, StepsUsed, StoreFull, HostRefused, HostFault}
use Rattle.rs_exec.specs.declared.outcome.RRun.{RRun}

-- an outcome says why a run went no further
abbrev pub IsOutcome : Stopped → ROutcome → Type 0
IsOutcome (ended status) outcome = outcome ≡ Ended status
IsOutcome (went_wrong why) outcome = outcome ≡ Wrong why
IsOutcome no_units outcome = outcome ≡ StepsUsed
IsOutcome (store_full need left) outcome = outcome ≡ StoreFull need left
IsOutcome (refused name) outcome = outcome ≡ HostRefused name
IsOutcome failed outcome = outcome ≡ HostFault
IsOutcome no_memory outcome = ⊥

-- the units that are told of so many that were taken: without that of a call at which the host stopped the run
abbrev pub steps_told : ROutcome → (taken : ℕ) → ℕ
steps_told (Ended status) taken = taken
steps_told (Wrong why) taken = taken
steps_told StepsUsed taken = taken
steps_told (StoreFull need left) taken = taken
steps_told (HostRefused name) taken = taken - 1
steps_told HostFault taken = taken - 1

-- before the program begins
abbrev pub start : ℕ → Option Limit → HostState → State
start steps limit host = record { held = nothing_held; trail = []; units = steps; limit = limit; host = host }

-- what an engine did of a whole crate within so many units, from a host to a later one
pub record RunsTo (whole : CrateTree) (steps : ℕ) (limit : Option Limit) (host later : HostState) (run : RRun) : Type 0 where
  pub stop : Stopped
  pub outcome : IsOutcome stop run.outcome
  pub after : State
  pub does : Does (run_main whole (bodies_of whole.modules)) (stops stop) (start steps limit host) after
  pub trail : run.trail ≡ after.trail
  pub taken : ℕ
  pub units : steps ≡ taken + after.units
  pub told : run.steps ≡ steps_told run.outcome taken
  pub last : after.host ≡ later
