-- Want of memory in a run: what the host was asked for then.
use Rattle.std.proofs.Common.{◌≡◌, ◌∙◌, inl, inr, refl, sym, ap, subst, arith, ℤ, ℕ, ◌+◌, ◌≤◌, List, [], ◌∷◌, ◌++◌, Option, Some, None, option_map, append-nil}
use Rattle.cr_runs.specs.Runs.{Ran, came, halted, bad, out, state_of}
use Rattle.cr_world.specs.Held.{nothing_held}
use Rattle.cr_world.specs.World.{World, Stop, wrong, full, asks, astray, trail_of, first_world}
use Rattle.ext_calls.specs.declared.call.Call.{Call}
use Rattle.ext_calls.specs.declared.call.Made.{Made}
use Rattle.ext_calls.specs.Host.{HostState}
use Rattle.mem_bytes.specs.Counted.{Limit}
use Rattle.rs_mean.specs.declared.cause.Cause.{Cause}
use Rattle.rs_mean.specs.Laws.{bodies_of}
use Rattle.rs_mean.specs.Run.{ran, run_main}
use Rattle.rs_mean.specs.World.{Run}
use Rattle.rs_mean.proofs.Unfolded.{main_unfolds}
use Rattle.rs_text.specs.Tree.{CrateTree, ModuleTree}
use Rattle.rs_machine.specs.Does.{Stopped, ended, went_wrong, no_units, store_full, refused, failed, no_memory, stops, IsAsking, LastIsAsked, Wants, DoesBy, Does}
use Rattle.rs_machine.specs.States.{State, world_at, AreGiven, AreTaken}
use Rattle.rs_exec.specs.declared.outcome.ROutcome.{ROutcome}
use Rattle.rs_exec.specs.declared.outcome.ROutcome.TheVariants.{Ended, Wrong, StepsUsed, StoreFull, HostRefused, HostFault}
use Rattle.rs_exec.specs.Ends.{start}
use Rattle.rs_exec.specs.Exec.{IsShort, outside_of, world_within}
use Rattle.rs_exec.proofs.Answered.{Goes, Spent, main_answers}
use Rattle.rs_exec.proofs.Outcomes.{IsRun, by_stop}

none_told : (told : Option (List Made)) → told ≡ option_map (λ made. made ++ []) told
none_told None = refl
none_told (Some made) = ap Some (sym (append-nil made))

-- where a run asks for the answer of a call, it makes the call with this answer, and no other
asked_spent : (limit : Option Limit) (call : Call) (made : List Made) (answer : ℤ) (found later : Ran (Stop Cause) World (Unit {0})) → IsAsking call made found → Goes limit answer found later →
    Spent limit (made ++ record { call = call; answer = answer } ∷ []) (state_of later)
asked_spent limit call made answer (came value world left) later is goes = absurd is
asked_spent limit call made answer (halted status world) later is goes = absurd is
asked_spent limit call made answer (out world) later is goes = absurd is
asked_spent limit call made answer (bad (wrong why) world) later is goes = absurd is
asked_spent limit call made answer (bad (full need left) world) later is goes = absurd is
asked_spent limit call made answer (bad astray world) later is goes = absurd is
asked_spent limit call made answer (bad (asks one) world) later is goes =
    subst (λ (calls : List Made). Spent limit (calls ++ record { call = call; answer = answer } ∷ []) (state_of later)) is.1
    (subst (λ (other : Call). Spent limit (world.made ++ record { call = other; answer = answer } ∷ []) (state_of later)) is.0 goes)

module _ (whole : CrateTree) (steps : ℕ) (limit : Option Limit) (host : HostState) (after : State) where
  abbrev Main : Run (Unit {0})
  Main = run_main whole (bodies_of whole.modules)

  -- the world of a run under a trail in which these calls were made, and no answer is left
  stands : (trail : List ℤ) (units : ℕ) (calls : List Made) → Spent limit calls (state_of (Main (world_at (start steps limit host) [] trail) units)) → Spent limit calls (world_within whole limit trail units)
  stands trail units calls spent =
      subst (λ (found : Ran (Stop Cause) World (Unit {0})). Spent limit calls (state_of found)) (sym (main_unfolds whole (first_world (trail_of limit) (outside_of trail)) units)) spent

  short_by : (calls : List Made) (trail : List ℤ) (units : ℕ) → units ≤ steps → Spent limit calls (world_within whole limit trail units) →
      after.host.made ≡ option_map (λ made. made ++ calls) host.made → AreGiven calls host.left after.host.left → AreTaken host.takes calls → IsShort whole limit steps host after.host
  short_by calls trail units within spent told given taken = record {
    trail = trail;
    steps = units;
    within = within;
    answers = spent.answers_are;
    told = told ∙ ap (λ (list : List Made). option_map (λ made. made ++ list) host.made) (sym spent.made_is);
    given_by = subst (λ (list : List Made). AreGiven list host.left after.host.left) (sym spent.made_is) given;
    takes = subst (λ (list : List Made). AreTaken host.takes list) (sym spent.made_is) taken;
  }

  wanting : Wants Main (start steps limit host) after → IsShort whole limit steps host after.host
  wanting wants = elim wants.asked [
    | inl none ↦
        short_by wants.calls [] 0 (omega arith)
        (subst (λ (list : List Made). Spent limit list (world_within whole limit [] 0)) (sym none) (stands [] 0 [] ((main_answers limit whole).rests nothing_held [] 0)))
        wants.told wants.given wants.taken_by
    | inr last ↦
        short_by wants.calls (last.answers ++ last.last.answer ∷ []) last.units last.within
        (subst (λ (list : List Made). Spent limit list (world_within whole limit (last.answers ++ last.last.answer ∷ []) last.units)) (sym last.are)
        (stands (last.answers ++ last.last.answer ∷ []) last.units (last.others ++ last.last ∷ [])
        (asked_spent limit last.last.call last.others last.last.answer _ _ (last.asked []) ((main_answers limit whole).goes last.last.answer nothing_held [] last.answers last.units))))
        wants.told wants.given wants.taken_by
  ]

  short_run : (outcome : ROutcome) (trail : List ℤ) (taken : ℕ) → IsRun whole steps limit host after.host outcome trail taken → IsShort whole limit steps host after.host
  short_run outcome trail taken is = record {
    trail = trail;
    steps = steps;
    within = omega arith;
    answers = is.answers;
    told = is.told;
    given_by = is.given;
    takes = is.takes;
  }

  -- however a run stopped, the host was asked for no more than it shows
  stopped_short : (stop : Stopped) → DoesBy Main (stops stop) (start steps limit host) after → IsShort whole limit steps host after.host
  stopped_short (ended status) by = short_run _ _ _ (by_stop whole steps limit host after by.between.taken by.between.units (ended status) (Ended status) refl by)
  stopped_short (went_wrong why) by = short_run _ _ _ (by_stop whole steps limit host after by.between.taken by.between.units (went_wrong why) (Wrong why) refl by)
  stopped_short no_units by = short_run _ _ _ (by_stop whole steps limit host after by.stops.between.taken by.stops.between.units no_units StepsUsed refl by)
  stopped_short (store_full need left) by = short_run _ _ _ (by_stop whole steps limit host after by.between.taken by.between.units (store_full need left) (StoreFull need left) refl by)
  stopped_short (refused name) by = short_run _ _ _ (by_stop whole steps limit host after by.stops.between.taken by.stops.between.units (refused name) (HostRefused name) refl by)
  stopped_short failed by = short_run _ _ _ (by_stop whole steps limit host after by.stops.between.taken by.stops.between.units failed HostFault refl by)
  stopped_short no_memory by = wanting by

-- nothing was asked for before the first unit
pub none_short : (whole : CrateTree) (steps : ℕ) (limit : Option Limit) (host : HostState) → IsShort whole limit steps host host
none_short whole steps limit host =
    wanting whole steps limit host (start steps limit host) (record { calls = []; told = none_told host.made; given = refl; taken_by = tt; takes = refl; asked = inl refl })

pub does_short : (modules others : List ModuleTree) (entry steps : ℕ) (limit : Option Limit) (host : HostState) (after : State) (stop : Stopped) → modules ≡ others →
    Does (run_main (record { modules = modules; entry = entry }) (bodies_of modules)) (stops stop) (start steps limit host) after →
    IsShort (record { modules = others; entry = entry }) limit steps host after.host
does_short modules others entry steps limit host after stop is does =
    subst (λ (list : List ModuleTree). IsShort (record { modules = list; entry = entry }) limit steps host after.host) is
    (stopped_short (record { modules = modules; entry = entry }) steps limit host after stop does.by)
