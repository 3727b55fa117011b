-- How far a run came, and why it went no further.
use Rattle.std.specs.Prelude.{◌≡◌, ℕ, ◌≤◌, ℤ, List, Option, Some, None}
use Rattle.cr_world.specs.World.{World}
use Rattle.cx_core.specs.Trees.{CProgram}
use Rattle.cx_exec.specs.declared.outcome.COutcome.{COutcome}
use Rattle.cx_exec.specs.declared.outcome.COutcome.TheVariants.{StepsUsed}
use Rattle.cx_exec.specs.declared.outcome.CRun.{CRun}
use Rattle.cx_exec.specs.declared.run.Far.{Far}
use Rattle.cx_exec.specs.Exec.{Ran, IsRun, IsShort}
use Rattle.cx_exec.specs.Steps.{IsOutcome, start_in}
use Rattle.cx_machine.specs.declared.machine.Machine.{Machine}
use Rattle.cx_machine.specs.declared.stop.Stop.{Stop}
use Rattle.cx_machine.specs.declared.stop.Stop.TheVariants as stop
use Rattle.cx_outside.specs.declared.outside.Lack.TheVariants as lack
use Rattle.cx_machine.specs.Machines.{view_machine}
use Rattle.cx_machine.specs.Steps.{taken_of}
use Rattle.cx_mean.specs.Settings.{CSetting, setting_of}
use Rattle.ext_calls.specs.Host.{HostState}

-- a run stands before its first step
abbrev pub IsStart : CProgram → Machine → Type 0
IsStart program machine = (world : World) → start_in program machine.order.now world ≡ view_machine machine world

-- a setting is the one of its program
abbrev pub IsSetting : CSetting → Type 0
IsSetting setting = setting ≡ setting_of setting.program

-- memory was wanting
abbrev pub IsWanting : Stop → Type 0
IsWanting (stop.Lacks lack.Memory) = Unit {0}
IsWanting why = ⊥

-- all steps were used, or the run stopped
abbrev pub IsFar : Ran → (given : ℕ) → (host later : HostState) → (taken : ℕ) → Option Stop → Type 0
IsFar ran given host later taken None = (taken ≡ given) × IsRun ran given host later StepsUsed taken
IsFar ran given host later taken (Some why) =
    (taken ≤ given) × ((outcome : COutcome) → IsOutcome why outcome → IsRun ran given host later outcome (taken_of why taken))
    × (IsWanting why → IsShort ran.program ran.order ran.limit given host later)

-- what a run came to, by how far it came
abbrev pub IsEnding : Option Stop → ℕ → COutcome → (steps : ℕ) → Type 0
IsEnding None taken outcome steps = (outcome ≡ StepsUsed) × (steps ≡ taken)
IsEnding (Some why) taken outcome steps = IsOutcome why outcome × (steps ≡ taken_of why taken)

pub record IsEnd (far : Far) (run : CRun) (trail : List ℤ) : Type 0 where
  pub ending : IsEnding far.stop far.taken run.outcome run.steps
  pub trail_is : run.trail ≡ trail
