-- One step of a run, and what it comes to.
use Rattle.std.specs.Prelude.{◌≡◌, ℕ, suc, ℤ, true, false, List, [], Option, Some, Result, Ok, Err}
use Rattle.cr_base.specs.Count.{Rose}
use Rattle.cr_world.specs.World.{World, full, asks}
use Rattle.cx_mean.specs.Operands.{breaks, stops}
use Rattle.cx_mean.specs.State.{CControl, has_ended, has_stopped, CState}
use Rattle.cx_outside.specs.Comes.{Comes}
use Rattle.cx_outside.specs.States.{Around, KeptState, Quiet, around, world_at}
use Rattle.cx_outside.specs.Wanting.{Wants}
use Rattle.cx_outside.specs.declared.outside.Lack.TheVariants as lack
use Rattle.ext_calls.specs.declared.call.Call.{Call}
use Rattle.ext_calls.specs.declared.call.Made.{Made}
use Rattle.ext_calls.specs.Host.{HostState}
use Rattle.mem_bytes.specs.Counted.{Limit}
use Rattle.mem_bytes.specs.Memory.{Blocks}
use Rattle.cx_machine.specs.declared.stop.Stop.{Stop}
use Rattle.cx_machine.specs.declared.stop.Stop.TheVariants as stop

-- a state from which the run goes no further, with the calls that it made and the answers that are ahead
pub record IsStopped (control : CControl) (made : List Made) (ahead : List ℤ) (state : CState) : Type 0 where
  pub control_is : state.control ≡ control
  pub made_is : state.world.made ≡ made
  pub answers_are : state.world.answers ≡ ahead

-- the step leads there
pub record Stops (piece : World → CState) (control : CControl) (before after : Around) : Type 0 where
  pub quiet : Quiet before after
  pub stops : (made : List Made) (ahead : List ℤ) → IsStopped control made ahead (piece (world_at before made ahead))

-- it leads there where no answer is ahead, since a call has none
pub record Asks (piece : World → CState) (call : Call) (before after : Around) : Type 0 where
  pub quiet : Quiet before after
  pub stops : (made : List Made) → IsStopped (has_stopped (asks call)) made [] (piece (world_at before made []))

-- a call that the host doesn't take
pub record IsRefused (piece : World → CState) (name : List ℕ) (before after : Around) : Type 0 where
  pub call : Call
  pub named : call.name ≡ name
  pub declined : before.host.takes call ≡ false
  pub asks : Asks piece call before after

-- a call at which the outside failed
pub record Fails (piece : World → CState) (before after : Around) : Type 0 where
  pub call : Call
  pub taken : before.host.takes call ≡ true
  pub rose : Rose before.host.faults after.host.faults
  pub asks : Asks piece call before after

abbrev pub Advances : (World → CState) → Result (Unit {0}) Stop → (next : World → CState) → Around → Around → Type 0
Advances piece (Ok _) next before after = Comes piece next before after
Advances piece (Err (stop.Ended status)) next before after = Stops piece (has_ended status) before after
Advances piece (Err (stop.Undefined rule place)) next before after = Stops piece (has_stopped (stops (breaks rule) place)) before after
Advances piece (Err (stop.Lacks (lack.Full need left))) next before after = Stops piece (has_stopped (full need left)) before after
Advances piece (Err (stop.Lacks (lack.Refused name))) next before after = IsRefused piece name.now before after
Advances piece (Err (stop.Lacks lack.Failed)) next before after = Fails piece before after
-- want of memory may come in the place of anything; then the host was asked for nothing, or for what the step asks
Advances piece (Err (stop.Lacks lack.Memory)) next before after = Wants (λ world. Some (piece world).world) before after

-- the steps that a run took before and in the one in which it stopped; one that lacks something isn't taken
abbrev pub taken_of : Stop → ℕ → ℕ
taken_of (stop.Ended status) steps = suc steps
taken_of (stop.Undefined rule place) steps = suc steps
taken_of (stop.Lacks why) steps = steps

-- the same of a step that has no part in the outside
abbrev pub StoreAdvances : (World → CState) → Result (Unit {0}) Stop → (next : World → CState) → (before after : Blocks) → (limit later : Option Limit) → Type 0
StoreAdvances piece result next before after limit later =
    (kept : KeptState) (host : HostState) → Advances piece result next (around kept before limit host) (around kept after later host)
