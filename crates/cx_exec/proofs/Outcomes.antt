-- What a run came to, in the words of its contract.
use Rattle.std.proofs.Common.{◌≡◌, ◌∙◌, refl, sym, ap, subst, arith, ℕ, suc, ◌+◌, ◌-◌, ◌<◌, ◌≤◌, ℤ, Bool, List, [], ◌++◌, Option, Some, option_map, append-nil, Err, inl, inr}
use Rattle.cr_base.specs.Count.{Rose}
use Rattle.cr_base.specs.declared.rule.URule.{URule}
use Rattle.cr_base.specs.declared.refusal.Place.{Place}
use Rattle.cr_world.specs.World.{World, full, asks}
use Rattle.cx_core.specs.Trees.{CProgram}
use Rattle.cx_mean.specs.Operands.{breaks, stops}
use Rattle.cx_mean.specs.Run.{CProgress, going, progress_at, asks_for, c_after}
use Rattle.cx_mean.specs.Settings.{setting_of}
use Rattle.cx_mean.specs.State.{CControl, has_ended, has_stopped, CState, c_step}
use Rattle.cx_outside.specs.States.{Around, AreGiven, AreTaken, Quiet, world_at}
use Rattle.cx_outside.specs.Wanting.{HostKept, HostCalled, Wants}
use Rattle.cx_outside.specs.declared.outside.Lack.{Lack}
use Rattle.cx_outside.specs.declared.outside.Lack.TheVariants as lack
use Rattle.ext_calls.specs.declared.call.Call.{Call}
use Rattle.ext_calls.specs.declared.call.Made.{Made}
use Rattle.ext_calls.specs.Host.{HostState}
use Rattle.mem_bytes.specs.Counted.{Limit}
use Rattle.cx_exec.specs.declared.outcome.COutcome.{COutcome}
use Rattle.cx_exec.specs.declared.outcome.COutcome.TheVariants.{Ended, Undefined, StepsUsed, StoreFull, HostRefused, HostFault}
use Rattle.cx_machine.specs.declared.stop.Stop.{Stop}
use Rattle.cx_machine.specs.declared.stop.Stop.TheVariants as stop
use Rattle.cx_exec.specs.Exec.{Ran, progress_within, state_within, world_within, IsProgress, IsLeast, TookSteps, AsksHost, HasFailed, IsRun, IsShort}
use Rattle.cx_machine.specs.Steps.{IsStopped, Stops, Asks, Advances, taken_of}
use Rattle.cx_exec.specs.Steps.{IsOutcome, Reached, start_in, start_around}
use Rattle.cx_exec.proofs.Between.{both_given, both_taken, both_told}
use Rattle.cx_exec.proofs.Runs.{last_or_before, stays_ended, stays_stopped, stays}

rose_more : (one two three : ℕ) → one ≤ two → Rose two three → Rose one three
rose_more one two three later rose = omega (arith, later, rose)

-- ---- so many steps behind one another

module _ (program : CProgram) (order : List ℕ) (limit : Option Limit) (host : HostState) (steps : ℕ) (now : World → CState) (at : Around)
    (reached : Reached program order steps now (start_around limit host) at) where
  abbrev this : Ran
  this = record { program = program; order = order; limit = limit; trail = at.trail }

  all_answers : reached.between.answers ++ [] ≡ at.trail
  all_answers = append-nil reached.between.answers ∙ sym reached.between.trail

  -- the state under the trail
  under : (n : ℕ) → state_within this n ≡ c_after (setting_of program) n (start_in program order (world_at (start_around limit host) [] (reached.between.answers ++ [])))
  under n = ap (λ (answers : List ℤ). c_after (setting_of program) n (start_in program order (world_at (start_around limit host) [] answers))) (sym all_answers)

  reached_under : state_within this steps ≡ now (world_at at reached.between.calls [])
  reached_under = under steps ∙ reached.goes []

  next_under : state_within this (suc steps) ≡ c_step (setting_of program) (now (world_at at reached.between.calls []))
  next_under = ap (λ (state : CState). c_step (setting_of program) state) reached_under

  goes_on_below : (fewer : ℕ) → fewer < suc steps → progress_within this fewer ≡ going
  goes_on_below fewer less = elim (last_or_before fewer steps less) [
    | inl before ↦ ap (λ (state : CState). progress_at state.control) (under fewer) ∙ reached.went_on [] fewer before
    | inr same ↦ ap (λ (n : ℕ). progress_within this n) same ∙ ap (λ (state : CState). progress_at state.control) reached_under ∙ reached.goes_on _
  ]

  -- ---- all steps were used

  world_is : world_within this steps ≡ world_at at reached.between.calls []
  world_is = ap (λ (state : CState). state.world) reached_under ∙ reached.stands_in _

  calls_are : (world_within this steps).made ≡ reached.between.calls
  calls_are = ap (λ (world : World). world.made) world_is

  pub used_up : IsRun this steps host at.host StepsUsed steps
  used_up = record {
    progress = goes_on_below steps (omega arith);
    answers = ap (λ (world : World). world.answers) world_is;
    units = refl;
    told = reached.between.told ∙ ap (λ (calls : List Made). option_map (λ made. made ++ calls) host.made) (sym calls_are);
    given_by = subst (λ (calls : List Made). AreGiven calls host.left at.host.left) (sym calls_are) reached.between.given;
    takes = subst (λ (calls : List Made). AreTaken host.takes calls) (sym calls_are) reached.between.taken_by;
    asks = tt;
    failed = tt;
  }

  -- ---- memory was wanting in the next step

  module _ (given : ℕ) (less : steps < given) (later : Around) where
    abbrev step_world : World → Option World
    step_world world = Some (c_step (setting_of program) (now world)).world

    kept_short : HostKept at.host later.host → IsShort program order limit given host later.host
    kept_short kept = record {
      trail = at.trail;
      steps = steps;
      within = omega (arith, less);
      answers = ap (λ (world : World). world.answers) world_is;
      told = kept.made ∙ reached.between.told ∙ ap (λ (calls : List Made). option_map (λ made. made ++ calls) host.made) (sym calls_are);
      given_by =
          subst (λ (calls : List Made). AreGiven calls host.left later.host.left) (sym calls_are)
          (subst (λ (left : Option (List ℤ)). AreGiven reached.between.calls host.left left) (sym kept.left) reached.between.given);
      takes = subst (λ (calls : List Made). AreTaken host.takes calls) (sym calls_are) reached.between.taken_by;
    }

    module _ (called : HostCalled step_world at later) where
      abbrev longer : Ran
      longer = record { program = program; order = order; limit = limit; trail = reached.between.answers ++ called.answers }

      longer_is : state_within longer (suc steps) ≡ c_step (setting_of program) (now (world_at at reached.between.calls called.answers))
      longer_is = ap (λ (state : CState). c_step (setting_of program) state) (reached.goes called.answers)

      longer_made : (world_within longer (suc steps)).made ≡ reached.between.calls ++ called.calls
      longer_made = ap (λ (state : CState). state.world.made) longer_is ∙ (called.shows reached.between.calls).0

      called_short : IsShort program order limit given host later.host
      called_short = record {
        trail = reached.between.answers ++ called.answers;
        steps = suc steps;
        within = omega (arith, less);
        answers = ap (λ (state : CState). state.world.answers) longer_is ∙ (called.shows reached.between.calls).1;
        told =
            called.told
            ∙ ap (λ (told : Option (List Made)). option_map (λ made. made ++ called.calls) told) reached.between.told
            ∙ both_told reached.between.calls called.calls host.made
            ∙ ap (λ (calls : List Made). option_map (λ made. made ++ calls) host.made) (sym longer_made);
        given_by =
            subst (λ (calls : List Made). AreGiven calls host.left later.host.left) (sym longer_made)
            (both_given reached.between.calls called.calls host.left at.host.left later.host.left reached.between.given called.given);
        takes =
            subst (λ (calls : List Made). AreTaken host.takes calls) (sym longer_made)
            (both_taken reached.between.calls called.calls host.takes at.host.takes reached.between.takes reached.between.taken_by called.taken_by);
      }

    pub wanting : Wants step_world at later → IsShort program order limit given host later.host
    wanting (inl kept) = kept_short kept
    wanting (inr called) = called_short called

  -- ---- the next step led to a state from which the run goes no further

  module _ (given : ℕ) (less : steps < given) (later : Around) (quiet : Quiet at later) (control : CControl)
      (stopped : IsStopped control reached.between.calls [] (c_step (setting_of program) (now (world_at at reached.between.calls []))))
      (still : c_step (setting_of program) (c_step (setting_of program) (now (world_at at reached.between.calls []))) ≡ c_step (setting_of program) (now (world_at at reached.between.calls []))) where
    abbrev those : Ran
    those = record { program = program; order = order; limit = limit; trail = later.trail }

    same_trail : (n : ℕ) → state_within those n ≡ state_within this n
    same_trail n = ap (λ (trail : List ℤ). state_within (record { program = program; order = order; limit = limit; trail = trail }) n) quiet.trail

    more_is : given - suc steps + suc steps ≡ given
    more_is = omega (arith, less)

    at_end : state_within those given ≡ c_step (setting_of program) (now (world_at at reached.between.calls []))
    at_end =
        same_trail given
        ∙ ap (λ (n : ℕ). state_within this n) (sym more_is)
        ∙ stays (setting_of program) (given - suc steps) (suc steps) _ _ next_under still

    at_next : state_within those (suc steps) ≡ c_step (setting_of program) (now (world_at at reached.between.calls []))
    at_next = same_trail (suc steps) ∙ next_under

    progress_is : progress_within those given ≡ progress_at control
    progress_is = ap (λ (state : CState). progress_at state.control) at_end ∙ ap (λ (one : CControl). progress_at one) stopped.control_is

    progress_next : progress_within those (suc steps) ≡ progress_at control
    progress_next = ap (λ (state : CState). progress_at state.control) at_next ∙ ap (λ (one : CControl). progress_at one) stopped.control_is

    below : (fewer : ℕ) → fewer < suc steps → progress_within those fewer ≡ going
    below fewer before = ap (λ (state : CState). progress_at state.control) (same_trail fewer) ∙ goes_on_below fewer before

    made_is : (world_within those given).made ≡ reached.between.calls
    made_is = ap (λ (state : CState). state.world.made) at_end ∙ stopped.made_is

    least : (outcome : COutcome) → IsProgress outcome (progress_at control) → IsLeast those outcome (suc steps)
    least outcome is = record {
      comes = subst (λ (progress : CProgress). IsProgress outcome progress) (sym progress_next) is;
      goes_on = below;
    }

    pub stopped_run : (outcome : COutcome) (taken : ℕ) → IsProgress outcome (progress_at control) → (IsLeast those outcome (suc steps) → TookSteps those given outcome taken) →
        AsksHost host outcome (progress_at control) → HasFailed host later.host outcome → IsRun those given host later.host outcome taken
    stopped_run outcome taken is took asked failed = record {
      progress = subst (λ (progress : CProgress). IsProgress outcome progress) (sym progress_is) is;
      answers = ap (λ (state : CState). state.world.answers) at_end ∙ stopped.answers_are;
      units = took (least outcome is);
      told =
          quiet.made ∙ reached.between.told
          ∙ ap (λ (calls : List Made). option_map (λ made. made ++ calls) host.made) (sym made_is);
      given_by =
          subst (λ (calls : List Made). AreGiven calls host.left later.host.left) (sym made_is)
          (subst (λ (left : Option (List ℤ)). AreGiven reached.between.calls host.left left) (sym quiet.left) reached.between.given);
      takes = subst (λ (calls : List Made). AreTaken host.takes calls) (sym made_is) reached.between.taken_by;
      asks = subst (λ (progress : CProgress). AsksHost host outcome progress) (sym progress_is) asked;
      failed = failed;
    }

  -- ---- by the stop

  module _ (given : ℕ) (less : steps < given) (later : Around) (next : World → CState) where
    abbrev step_from : World → CState
    step_from world = c_step (setting_of program) (now world)

    abbrev Is : COutcome → ℕ → Type 0
    Is outcome taken = IsRun (record { program = program; order = order; limit = limit; trail = later.trail }) given host later.host outcome taken

    no_more : suc steps ≤ given
    no_more = omega (arith, less)

    by_end : (status : ℤ) → Stops step_from (has_ended status) at later → Is (Ended status) (suc steps)
    by_end status one =
        let is : IsStopped (has_ended status) reached.between.calls [] (step_from (world_at at reached.between.calls [])) = one.stops reached.between.calls [] in
        stopped_run given less later one.quiet (has_ended status) is (stays_ended (setting_of program) _ status is.control_is)
        (Ended status) (suc steps) refl (λ least. (no_more, least)) tt tt

    by_rule : (rule : URule) (place : Place) → Stops step_from (has_stopped (stops (breaks rule) place)) at later → Is (Undefined rule place.unit place.line) (suc steps)
    by_rule rule place one =
        let is : IsStopped (has_stopped (stops (breaks rule) place)) reached.between.calls [] (step_from (world_at at reached.between.calls [])) = one.stops reached.between.calls [] in
        stopped_run given less later one.quiet (has_stopped (stops (breaks rule) place)) is (stays_stopped (setting_of program) _ (stops (breaks rule) place) is.control_is)
        (Undefined rule place.unit place.line) (suc steps) refl (λ least. (no_more, least)) tt tt

    by_full : (need left : ℕ) → Stops step_from (has_stopped (full need left)) at later → Is (StoreFull need left) steps
    by_full need left one =
        let is : IsStopped (has_stopped (full need left)) reached.between.calls [] (step_from (world_at at reached.between.calls [])) = one.stops reached.between.calls [] in
        stopped_run given less later one.quiet (has_stopped (full need left)) is (stays_stopped (setting_of program) _ (full need left) is.control_is)
        (StoreFull need left) steps refl (λ least. (less, least)) tt tt

    takes_same : (call : Call) → at.host.takes call ≡ host.takes call
    takes_same call = ap (λ (test : Call → Bool). test call) reached.between.takes

    by_asks : (call : Call) (outcome : COutcome) → Asks step_from call at later → IsProgress outcome (asks_for call) →
        (IsLeast (record { program = program; order = order; limit = limit; trail = later.trail }) outcome (suc steps) →
        TookSteps (record { program = program; order = order; limit = limit; trail = later.trail }) given outcome steps) →
        AsksHost host outcome (asks_for call) → HasFailed host later.host outcome → Is outcome steps
    by_asks call outcome one progress took asked failed =
        let is : IsStopped (has_stopped (asks call)) reached.between.calls [] (step_from (world_at at reached.between.calls [])) = one.stops reached.between.calls in
        stopped_run given less later one.quiet (has_stopped (asks call)) is (stays_stopped (setting_of program) _ (asks call) is.control_is)
        outcome steps progress took asked failed

    by_lack : (why : Lack) (outcome : COutcome) → IsOutcome (stop.Lacks why) outcome → Advances step_from (Err (stop.Lacks why)) next at later → Is outcome steps
    by_lack (lack.Full need left) outcome is one = subst (λ (other : COutcome). Is other steps) (sym is) (by_full need left one)
    by_lack (lack.Refused name) outcome is one =
        subst (λ (other : COutcome). Is other steps) (sym is)
        (by_asks one.call (HostRefused name.now) one.asks (one.call, refl, one.named) (λ least. (less, least)) (sym (takes_same one.call) ∙ one.declined) tt)
    by_lack lack.Failed outcome is one =
        subst (λ (other : COutcome). Is other steps) (sym is)
        (by_asks one.call HostFault one.asks (one.call, refl) (λ least. (less, least)) (sym (takes_same one.call) ∙ one.taken)
        (rose_more host.faults at.host.faults later.host.faults reached.between.later one.rose))
    by_lack lack.Memory outcome is one = absurd is

    pub stopped_is : (why : Stop) (outcome : COutcome) → IsOutcome why outcome → Advances step_from (Err why) next at later → Is outcome (taken_of why steps)
    stopped_is (stop.Ended status) outcome is one = subst (λ (other : COutcome). Is other (suc steps)) (sym is) (by_end status one)
    stopped_is (stop.Undefined rule place) outcome is one = subst (λ (other : COutcome). Is other (suc steps)) (sym is) (by_rule rule place one)
    stopped_is (stop.Lacks why) outcome is one = by_lack why outcome is one
