-- What was done of a piece of the meaning, which goes from a world to what comes of it.
use Rattle.std.specs.Prelude.{◌≡◌, ℕ, ℤ, true, false, List, [], ◌++◌, Option, Result, Ok, Err}
use Rattle.cr_base.specs.Count.{Rose}
use Rattle.cr_world.specs.World.{World, Got, full, asks}
use Rattle.cx_mean.specs.Operands.{CStop}
use Rattle.ext_calls.specs.declared.call.Call.{Call}
use Rattle.ext_calls.specs.declared.call.Made.{Made}
use Rattle.ext_calls.specs.Host.{HostState}
use Rattle.mem_bytes.specs.Counted.{Limit}
use Rattle.mem_bytes.specs.Memory.{Blocks}
use Rattle.cx_outside.specs.States.{Around, Between, KeptState, Quiet, around, world_at}
use Rattle.cx_outside.specs.declared.outside.Lack.{Lack}
use Rattle.cx_outside.specs.declared.outside.Lack.TheVariants as lack

-- it came to something, from one state to another, whatever calls were made before and whatever answers are ahead
pub record Comes {B : Type 0} (piece next : World → B) (before after : Around) : Type 0 where
  pub between : Between before after
  pub goes : (made : List Made) (ahead : List ℤ) →
      piece (world_at before made (between.answers ++ ahead)) ≡ next (world_at after (made ++ between.calls) ahead)

-- it goes no further, since the store is full
pub record IsFull {B : Type 0} (piece : World → Result B CStop) (need left : ℕ) (before after : Around) : Type 0 where
  pub quiet : Quiet before after
  pub stops : (made : List Made) (ahead : List ℤ) → piece (world_at before made ahead) ≡ Err (full need left)

-- it goes no further where no answer is ahead, since a call has none
pub record Asks {B : Type 0} (piece : World → Result B CStop) (call : Call) (before after : Around) : Type 0 where
  pub quiet : Quiet before after
  pub stops : (made : List Made) → piece (world_at before made []) ≡ Err (asks call)

-- a call that the host doesn't take
pub record IsRefused {B : Type 0} (piece : World → Result B CStop) (name : List ℕ) (before after : Around) : Type 0 where
  pub call : Call
  pub named : call.name ≡ name
  pub declined : before.host.takes call ≡ false
  pub asks : Asks piece call before after

-- a call at which the outside failed
pub record Fails {B : Type 0} (piece : World → Result B CStop) (before after : Around) : Type 0 where
  pub call : Call
  pub taken : before.host.takes call ≡ true
  pub rose : Rose before.host.faults after.host.faults
  pub asks : Asks piece call before after

abbrev pub Lacks : {B : Type 0} → (World → Result B CStop) → Lack → Around → Around → Type 0
Lacks piece (lack.Full need left) before after = IsFull piece need left before after
Lacks piece (lack.Refused name) before after = IsRefused piece name.now before after
Lacks piece lack.Failed before after = Fails piece before after
-- want of memory may come in the place of anything
Lacks piece lack.Memory before after = Unit {0}

abbrev pub got : {A : Type 0} → A → World → Result (Got A) CStop
got value world = Ok (record { value = value; world = world })

-- what came of a step of a world: a value, or what it lacks
abbrev pub Steps : {A : Type 0} → (World → Result (Got A) CStop) → Result A Lack → Around → Around → Type 0
Steps piece (Ok value) before after = Comes piece (got value) before after
Steps piece (Err why) before after = Lacks piece why before after

-- the same of a step that has no part in the host
abbrev pub StoreSteps : {A : Type 0} → (World → Result (Got A) CStop) → Result A Lack → (old new : KeptState) → (before after : Blocks) → (limit later : Option Limit) → Type 0
StoreSteps piece result old new before after limit later =
    (host : HostState) → Steps piece result (around old before limit host) (around new after later host)
