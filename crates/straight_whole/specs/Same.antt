-- When a crate behaves as a C program: whatever the outside answers, and up to the first undefined step of the
-- program's leftmost execution.
use Rattle.std.specs.Prelude.{◌≡◌, ℕ, ◌⊎◌, ⊤}
use Rattle.straight_core.specs.Trees.{CProgram}
use Rattle.straight_mean.specs.Run.{CSeen, CProgress, going, ended, undefined, c_run, leftmost}
use Rattle.ext_calls.specs.Outside.{Outside}
use Rattle.straight_rust_mean.specs.Run.{RSeen, RProgress, rs_run}
use Rattle.straight_rust_mean.specs.Run as rust
use Rattle.straight_rust_tree.specs.Tree.{CrateTree}

abbrev pub IsUndefined : CProgress → Type 0
IsUndefined going = ⊥
IsUndefined (ended status) = ⊥
IsUndefined (undefined rule unit line) = ⊤

abbrev pub IsWrong : RProgress → Type 0
IsWrong rust.going = ⊥
IsWrong (rust.ended status) = ⊥
IsWrong (rust.wrong cause) = ⊤

-- both go on, or both have ended with one status
abbrev pub SameProgress : CProgress → RProgress → Type 0
SameProgress going rust.going = ⊤
SameProgress (ended status) (rust.ended other) = status ≡ other
SameProgress c r = ⊥

-- where the C run has ended, the Rust run has, with that status
abbrev pub EndsAs : CProgress → RProgress → Type 0
EndsAs (ended status) r = r ≡ rust.ended status
EndsAs going r = ⊤
EndsAs (undefined rule unit line) r = ⊤

-- both have made the same calls, and go on alike or have ended alike
pub record Agrees (c : CSeen) (r : RSeen) : Type 0 where
  pub events : c.events ≡ r.events
  pub progress : SameProgress c.progress r.progress

-- both have made the same calls, and where the C run has ended, so has the Rust run
pub record Reaches (c : CSeen) (r : RSeen) : Type 0 where
  pub events : c.events ≡ r.events
  pub progress : EndsAs c.progress r.progress

-- Half (a): within any budget the Rust run isn't wrong, and shows what the C run shows after some number of
-- steps, unless the C run comes to an undefined step.
abbrev pub IsSafe : CProgram → CrateTree → Outside → Type 0
IsSafe program whole answers = (units : ℕ) →
    ((steps : ℕ) × IsUndefined (c_run program leftmost answers steps).progress)
    ⊎ ((¬ IsWrong (rs_run whole answers units).progress)
    × ((steps : ℕ) × Agrees (c_run program leftmost answers steps) (rs_run whole answers units)))

-- Half (b): what the C run shows after any number of steps, before an undefined one, the Rust run shows within
-- some budget.
abbrev pub GetsAsFar : CProgram → CrateTree → Outside → Type 0
GetsAsFar program whole answers = (steps : ℕ) →
    ¬ IsUndefined (c_run program leftmost answers steps).progress →
    (units : ℕ) × Reaches (c_run program leftmost answers steps) (rs_run whole answers units)

-- the crate behaves as the program does
pub record BehavesAs (program : CProgram) (whole : CrateTree) : Type 0 where
  pub safe : (answers : Outside) → IsSafe program whole answers
  pub gets_as_far : (answers : Outside) → GetsAsFar program whole answers
