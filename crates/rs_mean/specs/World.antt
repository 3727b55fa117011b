-- The pieces of which a run of a crate is made, under a budget of units: steps of what the program holds, calls to the outside, lives of
-- objects, ends, one piece behind another, and turns. No other piece looks at the world.
use Rattle.std.specs.Prelude.{ℕ, zero, suc, Bool, true, false, ℤ, Result, Ok, Err}
use Rattle.cr_runs.specs.Runs.{Ran, came, halted, bad, out, bind, tick}
use Rattle.cr_world.specs.Held.{Held, HeldFault, access, through_null, not_allocated, overlapping, wrong_kind}
use Rattle.cr_world.specs.World.{World, Stop, wrong, Got, with_held, answered, granted, object_begun}
use Rattle.ext_calls.specs.declared.call.Call.{Call}
use Rattle.mem_bytes.specs.declared.fault.Fault.{Fault}
use Rattle.mem_bytes.specs.declared.fault.Fault.TheVariants as fault
use Rattle.mem_bytes.specs.declared.pointer.PointerFault.{PointerFault}
use Rattle.mem_bytes.specs.declared.pointer.PointerFault.TheVariants.{ToDead, LeavesObject, NotWithinOne, NoPointer}
use Rattle.mem_bytes.specs.declared.value.Ptr.{Ptr}
use Rattle.mem_bytes.specs.declared.value.Value.{Value}
use Rattle.rs_mean.specs.declared.cause.Cause.{Cause}
use Rattle.rs_mean.specs.declared.cause.Cause.TheVariants as cause

-- a piece of a run, as a function of the world that it begins in and of the units that are left
abbrev pub Run : Type 0 → Type 0
Run A = World → ℕ → Ran (Stop Cause) World A

-- ---- ends

-- nothing is done, with this result
unfoldable pub pure : {A : Type 0} → A → Run A
pure value = λ world units. came value world units

-- the next step has no meaning
unfoldable pub fails : {A : Type 0} → Cause → Run A
fails why = λ world units. bad (wrong why) world

-- the program ends with a status
unfoldable pub ends : {A : Type 0} → ℤ → Run A
ends status = λ world units. halted status world

-- ---- one piece behind another

-- the second takes the result of the first
unfoldable pub seq : {A B : Type 0} → Run A → (A → Run B) → Run B
seq first next = λ world units. bind (first world units) next

-- a unit is taken first
unfoldable pub takes_unit : {A : Type 0} → Run A → Run A
takes_unit next = λ world units. tick world (next world) units

-- one of two pieces
abbrev pub either : {A : Type 0} → Bool → Run A → Run A → Run A
either true one other = one
either false one other = other

-- ---- steps of what the program holds

-- what such a step gives, and what is held then
pub record Did (A : Type 0) : Type 0 where
  pub value : A
  pub held : Held

abbrev pub after_step : {A : Type 0} → World → ℕ → Result (Did A) Cause → Ran (Stop Cause) World A
after_step world units (Ok did) = came did.value (with_held did.held world) units
after_step world units (Err why) = bad (wrong why) world

unfoldable pub local : {A : Type 0} → (Held → Result (Did A) Cause) → Run A
local step = λ world units. after_step world units (step world.held)

abbrev pub kept : {A : Type 0} → Held → Result A Cause → Result (Did A) Cause
kept held (Ok value) = Ok (record { value = value; held = held })
kept held (Err why) = Err why

-- a step that changes nothing
abbrev pub looks : {A : Type 0} → (Held → Result A Cause) → Run A
looks step = local (λ held. kept held (step held))

-- a result that was found, or why there is none
abbrev pub or_fails : {A : Type 0} → Result A Cause → Run A
or_fails (Ok value) = pure value
or_fails (Err why) = fails why

-- ---- what the outside gives

abbrev pub after_got : {A : Type 0} → ℕ → World → Result (Got A) (Stop Cause) → Ran (Stop Cause) World A
after_got units world (Ok got) = came got.value got.world units
after_got units world (Err stop) = bad stop world

-- a call of a function whose effect isn't known, which is answered
unfoldable pub tells : Call → Run ℤ
tells call = λ world units. after_got units world (answered call world)

-- an allocation of so many bytes, which are 0 or unset: null, or a pointer to a new block
unfoldable pub grants : (is_zero : Bool) → (size : ℕ) → Run Value
grants is_zero size = λ world units. after_got units world (granted is_zero size world)

-- the life of an object of this size and alignment begins, with bytes that are 0
unfoldable pub begins : (size align : ℕ) → Run Ptr
begins size align = λ world units. after_got units world (object_begun true size align world)

-- ---- turns

-- what a turn comes to: one more with another state, or a result
pub data Round (S A : Type 0) : Type 0 where
  again : S → Round S A
  done : A → Round S A

abbrev pub next_turn : {S A : Type 0} → (S → Run A) → Round S A → Run A
next_turn rest (again state) = rest state
next_turn rest (done value) = pure value

-- turns, of which there are fewer than so many; each takes a unit first
abbrev pub turns_within : {S A : Type 0} → ℕ → (S → Run (Round S A)) → S → Run A
turns_within zero turn state = λ world units. out world
turns_within (suc most) turn state = takes_unit (seq (turn state) (next_turn (turns_within most turn)))

-- turns until one gives a result: each takes a unit first, so a budget has no more of them than units
unfoldable pub rounds : {S A : Type 0} → (S → Run (Round S A)) → S → Run A
rounds turn state = λ world units. turns_within (suc units) turn state world units

-- ---- causes

-- the fault of an access is a cause
abbrev pub cause_of : Fault → Cause
cause_of fault.Dead = cause.Dead
cause_of fault.Outside = cause.Outside
cause_of fault.Misaligned = cause.Misaligned
cause_of fault.Unset = cause.Unset
cause_of fault.BadBool = cause.BadBool
cause_of fault.MixedPointer = cause.MixedPointer

-- and so is that of a call of a known function
abbrev pub cause_of_held : HeldFault → Cause
cause_of_held (access why) = cause_of why
cause_of_held through_null = cause.Outside
cause_of_held not_allocated = cause.BadFree
cause_of_held overlapping = cause.Overlap
cause_of_held wrong_kind = cause.WrongCall

-- and that of an operation on pointers
abbrev pub cause_of_pointer : PointerFault → Cause
cause_of_pointer ToDead = cause.Dead
cause_of_pointer LeavesObject = cause.Offset
cause_of_pointer NotWithinOne = cause.Apart
cause_of_pointer NoPointer = cause.WrongCall

-- a result with its fault as a cause
abbrev pub or_cause : {A F : Type 0} → (F → Cause) → Result A F → Result A Cause
or_cause cause (Ok value) = Ok value
or_cause cause (Err why) = Err (cause why)

abbrev pub then_try : {A B : Type 0} → Result A Cause → (A → Result B Cause) → Result B Cause
then_try (Ok value) next = next value
then_try (Err why) next = Err why
