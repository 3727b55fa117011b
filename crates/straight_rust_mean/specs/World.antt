-- What a run of a crate changes, and pieces of a run, under a budget of units.
use Rattle.std.specs.Prelude.{ℕ, Result, Ok, Err}
use Rattle.cr_runs.specs.Runs.{Ran, came, bad, bind, tick}
use Rattle.ext_calls.specs.Outside.{Outside, Events}
use Rattle.mem_bytes.specs.Memory.{Blocks}
use Rattle.mem_bytes.specs.declared.fault.Fault.{Fault}
use Rattle.mem_bytes.specs.declared.fault.Fault.TheVariants as fault
use Rattle.straight_rust_mean.specs.declared.cause.Cause.{Cause}
use Rattle.straight_rust_mean.specs.declared.cause.Cause.TheVariants as cause

-- the memory, the calls of external functions so far, and the answers that are left
pub record World : Type 0 where
  pub memory : Blocks
  pub events : Events
  pub answers : Outside

-- a piece of a run, as a function of the world that it begins in and of the units that are left
abbrev pub Run : Type 0 → Type 0
Run A = World → ℕ → Ran Cause World A

-- nothing is done, with this result
abbrev pub pure : {A : Type 0} → A → Run A
pure value = λ world units. came value world units

-- the next step has no meaning
abbrev pub fails : {A : Type 0} → Cause → Run A
fails why = λ world units. bad why world

-- one piece after another, which takes the result of the first
abbrev pub seq : {A B : Type 0} → Run A → (A → Run B) → Run B
seq first next = λ world units. bind (first world units) next

-- a unit is taken first
abbrev pub takes_unit : {A : Type 0} → Run A → Run A
takes_unit next = λ world units. tick world (next world) units

-- the fault of an access is a cause
abbrev pub cause_of : Fault → Cause
cause_of fault.Dead = cause.Dead
cause_of fault.Outside = cause.Outside
cause_of fault.Misaligned = cause.Misaligned
cause_of fault.Unset = cause.Unset
cause_of fault.BadBool = cause.BadBool
cause_of fault.MixedPointer = cause.MixedPointer

-- the result of an access
abbrev pub or_fault : {A : Type 0} → Result A Fault → Run A
or_fault (Ok value) = pure value
or_fault (Err why) = fails (cause_of why)
