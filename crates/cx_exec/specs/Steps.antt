-- One step of a run, and how far a run has come.
use Rattle.std.specs.Prelude.{◌≡◌, ℕ, ◌<◌, ℤ, List, [], ◌++◌, Option}
use Rattle.cr_world.specs.Held.{nothing_held}
use Rattle.cr_world.specs.World.{World}
use Rattle.cx_core.specs.Trees.{CProgram}
use Rattle.cx_mean.specs.Run.{going, progress_at, c_after}
use Rattle.cx_mean.specs.Settings.{setting_of}
use Rattle.cx_mean.specs.State.{CState, beginning_statics, statics_in}
use Rattle.cx_outside.specs.States.{Around, Between, world_at}
use Rattle.cx_outside.specs.declared.outside.Lack.TheVariants as lack
use Rattle.ext_calls.specs.Host.{HostState}
use Rattle.mem_bytes.specs.Counted.{Limit}
use Rattle.cx_exec.specs.declared.outcome.COutcome.{COutcome}
use Rattle.cx_exec.specs.declared.outcome.COutcome.TheVariants.{Ended, Undefined, StoreFull, HostRefused, HostFault}
use Rattle.cx_machine.specs.declared.stop.Stop.{Stop}
use Rattle.cx_machine.specs.declared.stop.Stop.TheVariants as stop

-- an outcome says why a run went no further
abbrev pub IsOutcome : Stop → COutcome → Type 0
IsOutcome (stop.Ended status) outcome = outcome ≡ Ended status
IsOutcome (stop.Undefined rule place) outcome = outcome ≡ Undefined rule place.unit place.line
IsOutcome (stop.Lacks (lack.Full need left)) outcome = outcome ≡ StoreFull need left
IsOutcome (stop.Lacks (lack.Refused name)) outcome = outcome ≡ HostRefused name.now
IsOutcome (stop.Lacks lack.Failed) outcome = outcome ≡ HostFault
IsOutcome (stop.Lacks lack.Memory) outcome = ⊥

-- ---- many steps

-- before the first step, in a world
abbrev pub start_in : CProgram → List ℕ → World → CState
start_in program order world = record {
  control = beginning_statics (statics_in program.objects) (statics_in program.objects);
  statics = [];
  callers = [];
  world = world;
  order = order;
}

abbrev pub start_around : Option Limit → HostState → Around
start_around limit host = record { held = nothing_held; trail = []; limit = limit; host = host }

-- after so many steps the run stands in a state, whatever answers are ahead, and it went on at all of them
pub record Reached (program : CProgram) (order : List ℕ) (steps : ℕ) (now : World → CState) (first at : Around) : Type 0 where
  pub between : Between first at
  pub goes : (ahead : List ℤ) →
      c_after (setting_of program) steps (start_in program order (world_at first [] (between.answers ++ ahead))) ≡ now (world_at at between.calls ahead)
  pub went_on : (ahead : List ℤ) (fewer : ℕ) → fewer < steps →
      progress_at (c_after (setting_of program) fewer (start_in program order (world_at first [] (between.answers ++ ahead)))).control ≡ going
  pub goes_on : (world : World) → progress_at (now world).control ≡ going
  pub stands_in : (world : World) → (now world).world ≡ world
