-- What the run of a whole crate came to, in the words of its contract.
use Rattle.std.proofs.Common.{◌≡◌, ◌∙◌, refl, sym, ap, subst, arith, ℤ, ℕ, suc, ◌+◌, ◌-◌, ◌<◌, ◌≤◌, true, false, List, [], ◌++◌, Option, option_map, append-nil}
use Rattle.cr_base.specs.Count.{Rose}
use Rattle.cr_runs.specs.Runs.{Ran, came, halted, bad, out, state_of}
use Rattle.cr_world.specs.World.{World, Stop, wrong, full, asks, trail_of, first_world}
use Rattle.ext_calls.specs.declared.call.Call.{Call}
use Rattle.ext_calls.specs.Host.{HostState}
use Rattle.mem_bytes.specs.Counted.{Limit}
use Rattle.rs_mean.specs.declared.cause.Cause.{Cause}
use Rattle.rs_mean.specs.Laws.{bodies_of}
use Rattle.rs_mean.specs.Run.{RProgress, going, seen_of, ran, run_main}
use Rattle.rs_mean.specs.World.{Run}
use Rattle.rs_mean.proofs.Unfolded.{main_unfolds}
use Rattle.rs_text.specs.Tree.{ModuleTree, CrateTree}
use Rattle.rs_machine.specs.Does.{Stopped, ended, went_wrong, no_units, store_full, refused, failed, no_memory, stops, Ending, ends_with, breaks_off, runs_out, ran_of, IsAt, IsOut, Breaks, DoesBy, Does}
use Rattle.rs_machine.specs.States.{State, world_at, AreGiven, AreTaken}
use Rattle.rs_exec.specs.Ends.{IsOutcome, start, steps_told, RunsTo}
use Rattle.rs_exec.specs.Exec.{outside_of, progress_within, world_within, IsProgress, IsLeast, TookBefore, TookSteps, AsksHost, HasFailed}
use Rattle.rs_exec.specs.declared.outcome.ROutcome.{ROutcome}
use Rattle.rs_exec.specs.declared.outcome.ROutcome.TheVariants.{Ended, Wrong, StepsUsed, StoreFull, HostRefused, HostFault}
use Rattle.rs_exec.specs.declared.outcome.RRun.{RRun}
use Rattle.rs_exec.proofs.Unasked.{asked_later}

-- all that is said of a run
pub record IsRun (whole : CrateTree) (steps : ℕ) (limit : Option Limit) (host later : HostState) (outcome : ROutcome) (trail : List ℤ) (taken : ℕ) : Type 0 where
  pub progress : IsProgress outcome (progress_within whole limit trail steps)
  pub answers : (world_within whole limit trail steps).answers ≡ []
  pub units : TookSteps whole limit steps trail outcome taken
  pub told : later.made ≡ option_map (λ made. made ++ (world_within whole limit trail steps).made) host.made
  pub given : AreGiven (world_within whole limit trail steps).made host.left later.left
  pub takes : AreTaken host.takes (world_within whole limit trail steps).made
  pub asks : AsksHost host outcome (progress_within whole limit trail steps)
  pub failed : HasFailed host later outcome

state_is : (ending : Ending) (world : World) → state_of (ran_of {B = Unit {0}} ending world) ≡ world
state_is (ends_with status) world = refl
state_is (breaks_off why) world = refl
state_is runs_out world = refl

out_goes : (found : Ran (Stop Cause) World (Unit {0})) → IsOut found → (seen_of found).progress ≡ going
out_goes (came value world left) is = absurd is
out_goes (halted status world) is = absurd is
out_goes (bad why world) is = absurd is
out_goes (out world) is = refl

module _ (whole : CrateTree) (steps : ℕ) (limit : Option Limit) (host : HostState) (after : State) (ending : Ending)
    (breaks : Breaks (run_main whole (bodies_of whole.modules)) ending (start steps limit host) after) where
  abbrev begins : World
  begins = first_world (trail_of limit) (outside_of after.trail)

  answers_are : breaks.between.answers ++ [] ≡ after.trail
  answers_are = append-nil breaks.between.answers ∙ sym breaks.between.trail

  -- the meaning under the answers that were taken comes to the same end
  ended_at : (left : ℕ) → IsAt ending [] left → ran whole begins (breaks.between.taken + left) ≡ ran_of ending (world_at after breaks.between.calls [])
  ended_at left is =
      main_unfolds whole begins (breaks.between.taken + left)
      ∙ ap (λ (answers : List ℤ). run_main whole (bodies_of whole.modules) (world_at (start steps limit host) [] answers) (breaks.between.taken + left)) (sym answers_are)
      ∙ breaks.goes [] [] left is

  goes_on_within : (fewer : ℕ) → fewer < breaks.between.taken → progress_within whole limit after.trail fewer ≡ going
  goes_on_within fewer less =
      out_goes (ran whole begins fewer)
      (subst (λ (found : Ran (Stop Cause) World (Unit {0})). IsOut found) (sym (main_unfolds whole begins fewer))
      (subst (λ (answers : List ℤ). IsOut (run_main whole (bodies_of whole.modules) (world_at (start steps limit host) [] answers) fewer)) answers_are
      (breaks.short [] [] fewer less)))

  -- ---- within the whole budget, and within what was taken

  module _ (is : IsAt ending [] after.units) where
    ended_within : ran whole begins steps ≡ ran_of ending (world_at after breaks.between.calls [])
    ended_within = ap (λ (n : ℕ). ran whole begins n) breaks.between.units ∙ ended_at after.units is

    progress_is : progress_within whole limit after.trail steps ≡ (seen_of (ran_of ending (world_at after breaks.between.calls []))).progress
    progress_is = ap (λ (found : Ran (Stop Cause) World (Unit {0})). (seen_of found).progress) ended_within

    world_is : world_within whole limit after.trail steps ≡ world_at after breaks.between.calls []
    world_is = ap (λ (found : Ran (Stop Cause) World (Unit {0})). state_of found) ended_within ∙ state_is ending (world_at after breaks.between.calls [])

    trail_is : (world_within whole limit after.trail steps).answers ≡ []
    trail_is = ap (λ (world : World). world.answers) world_is

    told_is : after.host.made ≡ option_map (λ made. made ++ (world_within whole limit after.trail steps).made) host.made
    told_is = breaks.between.told ∙ ap (λ (world : World). option_map (λ made. made ++ world.made) host.made) (sym world_is)

    given_is : AreGiven (world_within whole limit after.trail steps).made host.left after.host.left
    given_is = subst (λ (world : World). AreGiven world.made host.left after.host.left) (sym world_is) breaks.between.given

    takes_is : AreTaken host.takes (world_within whole limit after.trail steps).made
    takes_is = subst (λ (world : World). AreTaken host.takes world.made) (sym world_is) breaks.between.taken_by

  progress_at : (taken : ℕ) → taken ≡ breaks.between.taken → IsAt ending [] 0 →
      progress_within whole limit after.trail taken ≡ (seen_of (ran_of ending (world_at after breaks.between.calls []))).progress
  progress_at taken same is =
      let none : taken ≡ breaks.between.taken + 0 = omega (arith, same) in
      ap (λ (n : ℕ). progress_within whole limit after.trail n) none
      ∙ ap (λ (found : Ran (Stop Cause) World (Unit {0})). (seen_of found).progress) (ended_at 0 is)

  -- the least budget
  least : (outcome : ROutcome) (taken : ℕ) → steps ≡ taken + after.units → IsAt ending [] 0 →
      (IsProgress outcome (seen_of (ran_of ending (world_at after breaks.between.calls []))).progress) →
      (taken ≤ steps) × IsLeast whole limit after.trail outcome taken
  least outcome taken sum is comes =
      let same : taken ≡ breaks.between.taken = omega (arith, sum, breaks.between.units) in (
        omega (arith, sum),
        record {
          comes = subst (λ (progress : RProgress). IsProgress outcome progress) (sym (progress_at taken same is)) comes;
          goes_on = λ fewer less. goes_on_within fewer (omega (arith, less, same));
        },
      )

  -- at a call at which the host stopped it, which took a unit
  before_call : (call : Call) (outcome : ROutcome) (taken : ℕ) → ending ≡ breaks_off (asks call) → steps ≡ taken + after.units → IsAt ending [] 0 →
      (IsProgress outcome (seen_of (ran_of ending (world_at after breaks.between.calls []))).progress) →
      TookBefore whole limit steps after.trail outcome (taken - 1)
  before_call call outcome taken asking sum is comes =
      let stops : ran_of {B = Unit {0}} ending (world_at after breaks.between.calls []) ≡ bad (asks call) (world_at after breaks.between.calls []) =
      ap (λ (one : Ending). ran_of {B = Unit {0}} one (world_at after breaks.between.calls [])) asking in
      let later = asked_later whole _ _ call breaks.between.taken (breaks.goes [] [] 0 is ∙ stops) in
      let same : taken ≡ breaks.between.taken = omega (arith, sum, breaks.between.units) in
      let again : suc (taken - 1) ≡ taken = omega (arith, same, later) in
      let found = least outcome taken sum is comes in (
        omega (arith, again, found.0),
        subst (λ (n : ℕ). IsLeast whole limit after.trail outcome n) (sym again) found.1,
      )

-- ---- by the way in which it stopped

module _ (whole : CrateTree) (steps : ℕ) (limit : Option Limit) (host : HostState) (after : State) (taken : ℕ) (sum : steps ≡ taken + after.units) where
  abbrev Main : Run (Unit {0})
  Main = run_main whole (bodies_of whole.modules)

  abbrev Is : ROutcome → Type 0
  Is outcome = IsRun whole steps limit host after.host outcome after.trail (steps_told outcome taken)

  by_end : (status : ℤ) → Breaks Main (ends_with status) (start steps limit host) after → Is (Ended status)
  by_end status breaks = record {
    progress = progress_is whole steps limit host after (ends_with status) breaks tt;
    answers = trail_is whole steps limit host after (ends_with status) breaks tt;
    units = least whole steps limit host after (ends_with status) breaks (Ended status) taken sum tt refl;
    told = told_is whole steps limit host after (ends_with status) breaks tt;
    given = given_is whole steps limit host after (ends_with status) breaks tt;
    takes = takes_is whole steps limit host after (ends_with status) breaks tt;
    asks = tt;
    failed = tt;
  }

  by_wrong : (why : Cause) → Breaks Main (breaks_off (wrong why)) (start steps limit host) after → Is (Wrong why)
  by_wrong why breaks = record {
    progress = progress_is whole steps limit host after (breaks_off (wrong why)) breaks tt;
    answers = trail_is whole steps limit host after (breaks_off (wrong why)) breaks tt;
    units = least whole steps limit host after (breaks_off (wrong why)) breaks (Wrong why) taken sum tt refl;
    told = told_is whole steps limit host after (breaks_off (wrong why)) breaks tt;
    given = given_is whole steps limit host after (breaks_off (wrong why)) breaks tt;
    takes = takes_is whole steps limit host after (breaks_off (wrong why)) breaks tt;
    asks = tt;
    failed = tt;
  }

  by_full : (need left : ℕ) → Breaks Main (breaks_off (full need left)) (start steps limit host) after → Is (StoreFull need left)
  by_full need left breaks = record {
    progress = progress_is whole steps limit host after (breaks_off (full need left)) breaks tt;
    answers = trail_is whole steps limit host after (breaks_off (full need left)) breaks tt;
    units = least whole steps limit host after (breaks_off (full need left)) breaks (StoreFull need left) taken sum tt refl;
    told = told_is whole steps limit host after (breaks_off (full need left)) breaks tt;
    given = given_is whole steps limit host after (breaks_off (full need left)) breaks tt;
    takes = takes_is whole steps limit host after (breaks_off (full need left)) breaks tt;
    asks = tt;
    failed = tt;
  }

  by_units : after.units ≡ 0 → Breaks Main runs_out (start steps limit host) after → Is StepsUsed
  by_units none breaks = record {
    progress = progress_is whole steps limit host after runs_out breaks none;
    answers = trail_is whole steps limit host after runs_out breaks none;
    units = omega (arith, sum, none);
    told = told_is whole steps limit host after runs_out breaks none;
    given = given_is whole steps limit host after runs_out breaks none;
    takes = takes_is whole steps limit host after runs_out breaks none;
    asks = tt;
    failed = tt;
  }

  by_refusal : (name : List ℕ) (call : Call) → call.name ≡ name → after.host.takes call ≡ false → Breaks Main (breaks_off (asks call)) (start steps limit host) after → Is (HostRefused name)
  by_refusal name call named declined breaks = record {
    progress = (call, progress_is whole steps limit host after (breaks_off (asks call)) breaks refl, named);
    answers = trail_is whole steps limit host after (breaks_off (asks call)) breaks refl;
    units = before_call whole steps limit host after (breaks_off (asks call)) breaks call (HostRefused name) taken refl sum refl (call, refl, named);
    told = told_is whole steps limit host after (breaks_off (asks call)) breaks refl;
    given = given_is whole steps limit host after (breaks_off (asks call)) breaks refl;
    takes = takes_is whole steps limit host after (breaks_off (asks call)) breaks refl;
    asks = subst (λ (progress : RProgress). AsksHost host (HostRefused name) progress) (sym (progress_is whole steps limit host after (breaks_off (asks call)) breaks refl))
        (ap (λ takes. takes call) (sym breaks.between.takes) ∙ declined);
    failed = tt;
  }

  by_fault : (call : Call) → after.host.takes call ≡ true → Rose host.faults after.host.faults → Breaks Main (breaks_off (asks call)) (start steps limit host) after → Is HostFault
  by_fault call accepted rose breaks = record {
    progress = (call, progress_is whole steps limit host after (breaks_off (asks call)) breaks refl);
    answers = trail_is whole steps limit host after (breaks_off (asks call)) breaks refl;
    units = before_call whole steps limit host after (breaks_off (asks call)) breaks call HostFault taken refl sum refl (call, refl);
    told = told_is whole steps limit host after (breaks_off (asks call)) breaks refl;
    given = given_is whole steps limit host after (breaks_off (asks call)) breaks refl;
    takes = takes_is whole steps limit host after (breaks_off (asks call)) breaks refl;
    asks = subst (λ (progress : RProgress). AsksHost host HostFault progress) (sym (progress_is whole steps limit host after (breaks_off (asks call)) breaks refl))
        (ap (λ takes. takes call) (sym breaks.between.takes) ∙ accepted);
    failed = rose;
  }

  pub by_stop : (stop : Stopped) (outcome : ROutcome) → IsOutcome stop outcome → DoesBy Main (stops stop) (start steps limit host) after → Is outcome
  by_stop (ended status) outcome is by = subst Is (sym is) (by_end status by)
  by_stop (went_wrong why) outcome is by = subst Is (sym is) (by_wrong why by)
  by_stop no_units outcome is by = subst Is (sym is) (by_units by.none by.stops)
  by_stop (store_full need left) outcome is by = subst Is (sym is) (by_full need left by)
  by_stop (refused name) outcome is by = subst Is (sym is) (by_refusal name by.call by.named by.declined by.stops)
  by_stop failed outcome is by = subst Is (sym is) (by_fault by.call by.taken by.rose by.stops)
  by_stop no_memory outcome is by = absurd is

-- all that is said of a run follows from what its engine did
pub is_run : (whole : CrateTree) (steps : ℕ) (limit : Option Limit) (host later : HostState) (run : RRun) → RunsTo whole steps limit host later run →
    IsRun whole steps limit host later run.outcome run.trail run.steps
is_run whole steps limit host later run runs =
    subst (λ (one : HostState). IsRun whole steps limit host one run.outcome run.trail run.steps) runs.last
    (subst (λ (trail : List ℤ). IsRun whole steps limit host runs.after.host run.outcome trail run.steps) (sym runs.trail)
    (subst (λ (told : ℕ). IsRun whole steps limit host runs.after.host run.outcome runs.after.trail told) (sym runs.told)
    (by_stop whole steps limit host runs.after runs.taken runs.units runs.stop run.outcome runs.outcome runs.does.by)))

pub is_run_by : (modules others : List ModuleTree) (entry steps : ℕ) (limit : Option Limit) (host later : HostState) (run : RRun) → modules ≡ others →
    RunsTo (record { modules = modules; entry = entry }) steps limit host later run → IsRun (record { modules = others; entry = entry }) steps limit host later run.outcome run.trail run.steps
is_run_by modules others entry steps limit host later run is runs =
    is_run (record { modules = others; entry = entry }) steps limit host later run
    (subst (λ (list : List ModuleTree). RunsTo (record { modules = list; entry = entry }) steps limit host later run) is runs)

-- a unit that is left was there
pub units_left : (whole : CrateTree) (stop : Stopped) (outcome : ROutcome) {before after : State} → IsOutcome stop outcome →
    Does (run_main whole (bodies_of whole.modules)) (stops stop) before after → after.units ≤ before.units
units_left whole (ended status) outcome is does = omega (arith, does.by.between.units)
units_left whole (went_wrong why) outcome is does = omega (arith, does.by.between.units)
units_left whole no_units outcome is does = omega (arith, does.by.stops.between.units)
units_left whole (store_full need left) outcome is does = omega (arith, does.by.between.units)
units_left whole (refused name) outcome is does = omega (arith, does.by.stops.between.units)
units_left whole failed outcome is does = omega (arith, does.by.stops.between.units)
units_left whole no_memory outcome is does = absurd is
