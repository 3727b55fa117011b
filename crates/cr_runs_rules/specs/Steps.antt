-- Runs that take a step first, by what they are under each bound, and what a piece leaves of a bound.
use Rattle.std.specs.Prelude.{◌≡◌, ℕ, ◌<◌, ◌⊎◌, ⊤}
use Rattle.cr_runs.specs.Runs.{Ran, came, halted, bad, out, tick}
use Rattle.cr_runs.specs.Owes.{Fails, GoesOn}

-- a run stands at a state and takes a step, and goes on as another run
abbrev pub StepsTo : {F S A : Type 0} → (ℕ → Ran F S A) → S → (ℕ → Ran F S A) → Type 0
StepsTo run state next = (bound : ℕ) → run bound ≡ tick state next bound

-- a piece that came to its end leaves less than a bound
abbrev pub LeavesBelow : {F S A : Type 0} → ℕ → Ran F S A → Type 0
LeavesBelow bound (came value state left) = left < bound
LeavesBelow bound (halted status state) = ⊤
LeavesBelow bound (bad fault state) = ⊤
LeavesBelow bound (out state) = ⊤

-- a run takes a step before it comes to its end, if it does
abbrev pub TakesAStep : {F S A : Type 0} → (ℕ → Ran F S A) → Type 0
TakesAStep run = (bound : ℕ) → LeavesBelow bound (run bound)

-- a run comes to a step that has no meaning, or stands at these events under some bound
abbrev pub Waits : {F S A E : Type 0} → (ℕ → Ran F S A) → (S → E) → E → Type 0
Waits run events_of events = Fails run ⊎ GoesOn run events_of events
