-- What holds of every piece of a run, whatever frame it stands in, where it holds of the bodies that the frame calls.
use Rattle.std.specs.Prelude.{◌≡◌, ℕ, ◌+◌, List, Option}
use Rattle.cr_runs.specs.Owes.{Rests}
use Rattle.cr_runs.specs.Runs.{Ran, came, halted, bad, out, state_of}
use Rattle.cr_world.specs.World.{World, Stop, events_of}
use Rattle.rs_text.specs.Tree.{FunctionTree}
use Rattle.rs_mean.specs.declared.cause.Cause.{Cause}
use Rattle.rs_mean.specs.Laws.{IsFrontOf, LeavesWithin}
use Rattle.rs_mean.specs.Run.{Bodies}
use Rattle.rs_mean.specs.Values.{Typed}
use Rattle.rs_mean.specs.World.{Run}

-- a run within some units, and within so many more: what came to an end comes to the same, with so many more left, and what asked for a unit
-- goes on behind the same events
abbrev pub TakesJust : {A : Type 0} → Ran (Stop Cause) World A → (later : Ran (Stop Cause) World A) → ℕ → Type 0
TakesJust (came value state left) later more = later ≡ came value state (left + more)
TakesJust (halted status state) later more = later ≡ halted status state
TakesJust (bad why state) later more = later ≡ bad why state
TakesJust (out state) later more = IsFrontOf (events_of state) (events_of (state_of later))

-- a piece that leaves no more units than it had, shows nothing without a unit, only adds events, and takes exactly its units
pub record Behaves (A : Type 0) (run : Run A) : Type 0 where
  pub leaves : (world : World) (units : ℕ) → LeavesWithin units (run world units)
  pub rests : (world : World) → Rests events_of (events_of world) (run world 0)
  pub adds : (world : World) (units : ℕ) → IsFrontOf (events_of world) (events_of (state_of (run world units)))
  pub takes : (world : World) (units more : ℕ) → TakesJust (run world units) (run world (units + more)) more

-- so do all bodies
pub record BodiesBehave (bodies : Bodies) : Type 0 where
  pub body : (fun : FunctionTree) (args : List Typed) → Behaves (Option Typed) (bodies fun args)
