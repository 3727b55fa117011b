-- Steps of a run, by their parts.
use Rattle.std.proofs.Common.{◌≡◌, ◌∙◌, refl, sym, subst, arith, ℤ, List, [], Option, Some, Result, Ok, Err}
use Rattle.cr_base.specs.declared.refusal.Place.{Place}
use Rattle.cr_base.specs.declared.rule.URule.{URule}
use Rattle.cr_world.specs.World.{World, with_memory, full, asks}
use Rattle.cx_machine.specs.declared.machine.Machine.{Machine}
use Rattle.cx_machine.specs.declared.stop.Stop.{Stop}
use Rattle.cx_machine.specs.declared.stop.Stop.TheVariants as stop
use Rattle.cx_machine.specs.Machines.{CNext, GoesTo, view_machine}
use Rattle.cx_machine.specs.Steps.{IsStopped, Stops, Advances, StoreAdvances}
use Rattle.cx_machine.proofs.Landing.{at_comes}
use Rattle.cx_mean.specs.Operands.{breaks, stops}
use Rattle.cx_mean.specs.State.{CControl, CState, has_ended, has_stopped, at_control}
use Rattle.cx_outside.specs.States.{Around, KeptState, Quiet, around, world_at}
use Rattle.cx_outside.specs.Wanting.{HasMade}
use Rattle.cx_outside.proofs.Wanting.{wants_by}
use Rattle.cx_outside.specs.declared.outside.Lack.TheVariants as lack
use Rattle.ext_calls.specs.declared.call.Made.{Made}
use Rattle.ext_calls.specs.Host.{HostState}
use Rattle.mem_bytes.specs.Counted.{Limit}
use Rattle.mem_bytes.specs.Memory.{Blocks}

-- a step, by another name
module _ (piece other : World → CState) (same : (world : World) → piece world ≡ other world) where
  stopped_same : (control : CControl) (made : List Made) (ahead : List ℤ) (world : World) → IsStopped control made ahead (other world) → IsStopped control made ahead (piece world)
  stopped_same control made ahead world is = subst (λ (state : CState). IsStopped control made ahead state) (sym (same world)) is

  stops_same : (control : CControl) (before after : Around) → Stops other control before after → Stops piece control before after
  stops_same control before after one = record { quiet = one.quiet; stops = λ made ahead. stopped_same control made ahead _ (one.stops made ahead) }

  pub advances_by : (result : Result (Unit {0}) Stop) (next : World → CState) (before after : Around) → Advances other result next before after → Advances piece result next before after
  advances_by (Ok _) next before after one = record { between = one.between; goes = λ made ahead. same _ ∙ one.goes made ahead }
  advances_by (Err (stop.Ended status)) next before after one = stops_same (has_ended status) before after one
  advances_by (Err (stop.Undefined rule place)) next before after one = stops_same (has_stopped (stops (breaks rule) place)) before after one
  advances_by (Err (stop.Lacks (lack.Full need left))) next before after one = stops_same (has_stopped (full need left)) before after one
  advances_by (Err (stop.Lacks (lack.Refused name))) next before after one = record {
    call = one.call;
    named = one.named;
    declined = one.declined;
    asks = record { quiet = one.asks.quiet; stops = λ made. stopped_same (has_stopped (asks one.call)) made [] _ (one.asks.stops made) };
  }
  advances_by (Err (stop.Lacks lack.Failed)) next before after one = record {
    call = one.call;
    taken = one.taken;
    rose = one.rose;
    asks = record { quiet = one.asks.quiet; stops = λ made. stopped_same (has_stopped (asks one.call)) made [] _ (one.asks.stops made) };
  }
  advances_by (Err (stop.Lacks lack.Memory)) next before after one =
      wants_by (λ world. Some (piece world).world) (λ world. Some (other world).world) before after
      (λ made more ahead has. subst (λ (state : CState). HasMade more (Some state.world)) (sym (same _)) has) one

  pub store_by : (result : Result (Unit {0}) Stop) (next : World → CState) (before after : Blocks) (limit later : Option Limit) → StoreAdvances other result next before after limit later →
      StoreAdvances piece result next before after limit later
  store_by result next before after limit later one kept host = advances_by result next (around kept before limit host) (around kept after later host) (one kept host)

-- a step of a store, as one of a run
pub store_advances : (piece : World → CState) (result : Result (Unit {0}) Stop) (next : World → CState) (kept later_kept : KeptState) (before after : Blocks) (limit later : Option Limit) (host later_host : HostState) →
    later_kept ≡ kept → later_host ≡ host → StoreAdvances piece result next before after limit later →
    Advances piece result next (around kept before limit host) (around later_kept after later later_host)
store_advances piece result next kept later_kept before after limit later host later_host kept_is host_is one =
    subst (λ (one_kept : KeptState). Advances piece result next (around kept before limit host) (around one_kept after later later_host)) (sym kept_is)
    (subst (λ (one_host : HostState). Advances piece result next (around kept before limit host) (around kept after later one_host)) (sym host_is) (one kept host))

-- nothing is taken where a step goes no further
pub quiet_at : (kept : KeptState) (before after : Blocks) (limit later : Option Limit) (host : HostState) → later ≡ limit → Quiet (around kept before limit host) (around kept after later host)
quiet_at kept before after limit later host same = record { trail = refl; made = refl; left = refl; limit = same; takes = refl; later = omega arith }

-- a step that is undefined
pub undefined_at : (piece : World → CState) (rule : URule) (place : Place) (next : World → CState) (before after : Blocks) (limit later : Option Limit) → later ≡ limit →
    ((world : World) → IsStopped (has_stopped (stops (breaks rule) place)) world.made world.answers (piece (with_memory before world))) →
    StoreAdvances piece (Err (stop.Undefined rule place)) next before after limit later
undefined_at piece rule place next before after limit later same is kept host = record {
  quiet = quiet_at kept before after limit later host same;
  stops = λ made ahead. is (world_at (around kept before limit host) made ahead);
}

-- a step that leads somewhere in the function that runs
pub goes_on_at : (piece : World → CState) (base new : Machine) (next : CNext) (before after : Blocks) (limit later : Option Limit) → later ≡ limit → GoesTo base new next after →
    ((world : World) → piece (with_memory before world) ≡ at_control (view_machine base world) (with_memory next.blocks world) next.control) →
    StoreAdvances piece (Ok tt) (view_machine new) before after limit later
goes_on_at piece base new next before after limit later same goes is kept host = at_comes piece base new next before after limit later same goes is kept host
