-- A full expression that takes a step, as a step of a run.
use Rattle.std.proofs.Common.{◌≡◌, ◌∙◌, inl, inr, refl, sym, ap, subst, arith, ℕ, zero, suc, ℤ, Bor, true, List, [], ◌++◌, map, Option, Some, None, option_map, Result, Ok, Err, append-nil}
use Rattle.cr_base.specs.declared.refusal.Place.{Place}
use Rattle.cr_base.specs.declared.rule.URule.{URule}
use Rattle.cr_world.specs.World.{World, with_memory, blocks_of, trail_of, full, asks}
use Rattle.cx_core.specs.declared.program.Fun.{Fun}
use Rattle.cx_core.specs.declared.program.Outer.{Outer}
use Rattle.cx_core.specs.Trees.{CPut, put, CPuts}
use Rattle.cx_core.specs.Views.{puts_of, view_put}
use Rattle.cx_eval.specs.declared.step.Next.{Next}
use Rattle.cx_eval.specs.declared.step.Next.TheVariants as next
use Rattle.cx_eval.specs.Next.{Takes}
use Rattle.cx_machine.specs.Answers.{held_work, answered_with}
use Rattle.cx_machine.specs.declared.machine.Caller.{Caller}
use Rattle.cx_machine.specs.declared.machine.Machine.{Machine}
use Rattle.cx_machine.specs.declared.stop.Stop.{Stop}
use Rattle.cx_machine.specs.declared.stop.Stop.TheVariants as stop
use Rattle.cx_machine.specs.Machines.{callers_of, view_control, view_machine}
use Rattle.cx_machine.specs.Steps.{IsStopped, Stops, Advances}
use Rattle.cx_mean.specs.Calls.{CCalled, external_call}
use Rattle.cx_mean.specs.Moves.{CPurpose, slots_in}
use Rattle.cx_mean.specs.Operands.{breaks, stops, Frame}
use Rattle.cx_mean.specs.Settings.{CSetting}
use Rattle.cx_mean.specs.State.{CControl, CCaller, CState, has_ended, has_stopped, after_step, calling, called_own, expression_step, frame_for, going_on}
use Rattle.cx_mean.specs.Steps.{CPick, CStepped, did, asks_call, picked, step_at}
use Rattle.cx_mean.specs.Work.{CWork, ready}
use Rattle.cx_moves.specs.declared.moves.Behind.{Behind}
use Rattle.cx_moves.specs.declared.moves.Behind.TheVariants as behind
use Rattle.cx_moves.specs.declared.moves.Purpose.{Purpose}
use Rattle.cx_moves.specs.declared.moves.Purpose.TheVariants as purpose
use Rattle.cx_moves.specs.declared.sites.Site.{Site}
use Rattle.cx_moves.specs.Sites.{levels_of, stores_put, view_behind, view_purpose, view_site}
use Rattle.cx_outside.specs.Comes.{Comes}
use Rattle.cx_outside.specs.States.{Around, KeptState, Quiet, around, world_at}
use Rattle.cx_outside.specs.Wanting.{HasMade}
use Rattle.cx_outside.specs.declared.outside.Lack.TheVariants as lack
use Rattle.cx_steps.specs.Choices.{is_in_body, scope_frame, stands_in_body}
use Rattle.cx_steps.specs.Picks.{Follows}
use Rattle.cx_steps.proofs.Alike.{going_anywhere, step_alike, stands_at}
use Rattle.cx_work.specs.declared.operand.Called.{Called}
use Rattle.cx_work.specs.declared.operand.Callee.{Callee}
use Rattle.cx_work.specs.declared.operand.Callee.TheVariants as callee
use Rattle.cx_work.specs.Views.{view_called, view_callee}
use Rattle.cx_core.specs.Views.{view_function, view_outer}
use Rattle.ext_calls.specs.declared.call.Made.{Made}
use Rattle.ext_calls.specs.Host.{HostState}
use Rattle.mem_bytes.specs.Counted.{Limit}
use Rattle.mem_bytes.specs.Memory.{Blocks}

-- ---- a step that goes on where another does, from a later memory

quiet_from : (kept : KeptState) (before mid : Blocks) (limit mid_limit : Option Limit) (host : HostState) (after : Around) → mid_limit ≡ limit → Quiet (around kept mid mid_limit host) after → Quiet (around kept before limit host) after
quiet_from kept before mid limit mid_limit host after limit_is one =
    record { trail = one.trail; made = one.made; left = one.left; limit = one.limit ∙ limit_is; takes = one.takes; later = one.later }

module _ (piece other : World → CState) (kept : KeptState) (before mid : Blocks) (limit mid_limit : Option Limit) (host : HostState) (limit_is : mid_limit ≡ limit)
    (same : (made : List Made) (ahead : List ℤ) → piece (world_at (around kept before limit host) made ahead) ≡ other (world_at (around kept mid mid_limit host) made ahead)) where
  abbrev first : Around
  first = around kept before limit host

  abbrev second : Around
  second = around kept mid mid_limit host

  quiet_first : (after : Around) → Quiet second after → Quiet first after
  quiet_first after one = quiet_from kept before mid limit mid_limit host after limit_is one

  stopped_first : (control : CControl) (made : List Made) (ahead : List ℤ) → IsStopped control made ahead (other (world_at second made ahead)) → IsStopped control made ahead (piece (world_at first made ahead))
  stopped_first control made ahead is = subst (λ (state : CState). IsStopped control made ahead state) (sym (same made ahead)) is

  stops_first : (control : CControl) (after : Around) → Stops other control second after → Stops piece control first after
  stops_first control after one = record { quiet = quiet_first after one.quiet; stops = λ made ahead. stopped_first control made ahead (one.stops made ahead) }

  pub advances_from : (result : Result (Unit {0}) Stop) (next : World → CState) (after : Around) → Advances other result next second after → Advances piece result next first after
  advances_from (Ok _) next after one = record {
    between = record {
      answers = one.between.answers;
      calls = one.between.calls;
      trail = one.between.trail;
      told = one.between.told;
      given = one.between.given;
      taken_by = one.between.taken_by;
      limit = one.between.limit ∙ limit_is;
      takes = one.between.takes;
      later = one.between.later;
    };
    goes = λ made ahead. same made (one.between.answers ++ ahead) ∙ one.goes made ahead;
  }
  advances_from (Err (stop.Ended status)) next after one = stops_first (has_ended status) after one
  advances_from (Err (stop.Undefined rule place)) next after one = stops_first (has_stopped (stops (breaks rule) place)) after one
  advances_from (Err (stop.Lacks (lack.Full need left))) next after one = stops_first (has_stopped (full need left)) after one
  advances_from (Err (stop.Lacks (lack.Refused name))) next after one = record {
    call = one.call;
    named = one.named;
    declined = one.declined;
    asks = record { quiet = quiet_first after one.asks.quiet; stops = λ made. stopped_first (has_stopped (asks one.call)) made [] (one.asks.stops made) };
  }
  advances_from (Err (stop.Lacks lack.Failed)) next after one = record {
    call = one.call;
    taken = one.taken;
    rose = one.rose;
    asks = record { quiet = quiet_first after one.asks.quiet; stops = λ made. stopped_first (has_stopped (asks one.call)) made [] (one.asks.stops made) };
  }
  advances_from (Err (stop.Lacks lack.Memory)) next after (inl kept) = inl kept
  advances_from (Err (stop.Lacks lack.Memory)) next after (inr called) = inr (record {
    answers = called.answers;
    calls = called.calls;
    told = called.told;
    given = called.given;
    taken_by = called.taken_by;
    takes = called.takes;
    shows = λ made. subst (λ (state : CState). HasMade (made ++ called.calls) (Some state.world)) (sym (same made called.answers)) (called.shows made);
  })

-- ---- the objects in scope

in_body_is : (machine : Machine) (state : CState) → state.statics ≡ machine.statics → (slots_in (levels_of machine.site.levels) ++ machine.site.params) ++ state.statics ≡ scope_frame machine true
in_body_is machine state is = ap (λ (statics : Frame). (slots_in (levels_of machine.site.levels) ++ machine.site.params) ++ statics) is

pub put_frame_is : (machine : Machine) (object : ℕ) (one : CPut) (others : CPuts) (where_next : Behind) (state : CState) → state.statics ≡ machine.statics →
    frame_for state (stores_put object one others (view_behind (view_site machine.site) where_next)) ≡ scope_frame machine (is_in_body where_next)
put_frame_is machine object (put spot type value) others behind.Body state is =
    in_body_is machine state is
put_frame_is machine object (put spot type value) others (behind.Statics objects) state is = is

pub frame_is : (machine : Machine) (one : Purpose) (state : CState) → state.statics ≡ machine.statics → frame_for state (view_purpose (view_site machine.site) one) ≡ scope_frame machine (stands_in_body one)
frame_is machine (purpose.Puts one) state is = put_frame_is machine one.object (view_put one.put.now) (puts_of (map view_put one.others.now)) one.behind state is
frame_is machine purpose.Drops state is = in_body_is machine state is
frame_is machine purpose.Turns state is = in_body_is machine state is
frame_is machine (purpose.Gives place) state is = in_body_is machine state is
frame_is machine (purpose.Chooses place) state is = in_body_is machine state is

-- ---- the step

abbrev state_with : CControl → Frame → List CCaller → World → List ℕ → CState
state_with control statics callers world order = record { control = control; statics = statics; callers = callers; world = world; order = order }

-- which ready node goes next where no number of the order is left
none_picked : (count : ℕ) → picked [] count ≡ record { pick = 0; order = [] }
none_picked zero = refl
none_picked (suc zero) = refl
none_picked (suc (suc count)) = refl

pub first_picked : (order : List ℕ) (count : ℕ) → order ≡ [] → picked order count ≡ record { pick = 0; order = order }
first_picked order count is = subst (λ (list : List ℕ). picked list count ≡ record { pick = 0; order = list }) (sym is) (none_picked count)

-- of a tree in a state of the machine, wherever it stands, at a node that is picked
module _ (setting : CSetting) (old mid : Machine) (one : Purpose) (control : CControl) (work : CWork) (pick : CPick) (picks : picked old.order.now (ready work) ≡ pick)
    (order_is : mid.order.now ≡ pick.order) (site_is : mid.site ≡ old.site) (statics_are : mid.statics ≡ old.statics) (callers_are : mid.callers ≡ old.callers) where
  abbrev purpose_in : CPurpose
  purpose_in = view_purpose (view_site old.site) one

  abbrev standing : World → CState
  standing world = stands_at control (view_machine old world)

  abbrev piece : World → CState
  piece world = expression_step setting (standing world) work purpose_in

  abbrev ordered : World → CState
  ordered world = record (standing world) { order = pick.order }

  mid_is : (world : World) → stands_at (view_control mid) (ordered world) ≡ view_machine mid world
  mid_is world =
      ap (λ (frame : Frame). state_with (view_control mid) frame (callers_of old.callers) world pick.order) (sym statics_are)
      ∙ ap (λ (callers : List Caller). state_with (view_control mid) mid.statics (callers_of callers) world pick.order) (sym callers_are)
      ∙ ap (λ (order : List ℕ). state_with (view_control mid) mid.statics (callers_of mid.callers) world order) (sym order_is)

  evaluated : (world : World) (found : CStepped) → step_at setting (scope_frame old (stands_in_body one)) (blocks_of world) pick.pick work ≡ found →
      piece world ≡ after_step setting (view_machine mid world) purpose_in found
  evaluated world found is =
      ap (λ (choice : CPick). after_step setting (record (standing world) { order = choice.order }) purpose_in (step_at setting (frame_for (standing world) purpose_in) (blocks_of world) choice.pick work)) picks
      ∙ ap (λ (frame : Frame). after_step setting (ordered world) purpose_in (step_at setting frame (blocks_of world) pick.pick work)) (frame_is old one (standing world) refl)
      ∙ ap (λ (result : CStepped). after_step setting (ordered world) purpose_in result) is
      ∙ sym (step_alike (ordered world) (view_control mid) setting purpose_in found)
      ∙ ap (λ (state : CState). after_step setting state purpose_in found) (mid_is world)

  inner_is : view_purpose (view_site mid.site) one ≡ purpose_in
  inner_is = ap (λ (site : Site). view_purpose (view_site site) one) site_is

  module _ (result : Result (Unit {0}) Stop) (next_state : World → CState) (kept : KeptState) (before later : Blocks) (limit mid_limit : Option Limit) (host : HostState) (limit_is : mid_limit ≡ limit) (after : Around) where
    was_stepped : step_at setting (scope_frame old (stands_in_body one)) before pick.pick work ≡ Ok (did (held_work mid.work) later) →
        Advances (λ world. going_on (view_machine mid world) world (held_work mid.work) (view_purpose (view_site mid.site) one)) result next_state (around kept later mid_limit host) after →
        Advances piece result next_state (around kept before limit host) after
    was_stepped is goes =
        advances_from piece (λ (world : World). going_on (view_machine mid world) world (held_work mid.work) (view_purpose (view_site mid.site) one)) kept before later limit mid_limit host limit_is
        (λ made ahead.
        let here : World = world_at (around kept before limit host) made ahead in
        let there : World = world_at (around kept later mid_limit host) made ahead in
        evaluated here (Ok (did (held_work mid.work) later)) is
        ∙ going_anywhere (view_machine mid there) (view_control mid) here (with_memory later here) (held_work mid.work) purpose_in
        ∙ ap (λ (terms : Option Limit). going_on (view_machine mid there) (record there { terms = trail_of terms }) (held_work mid.work) purpose_in) (sym limit_is)
        ∙ ap (λ (inner : CPurpose). going_on (view_machine mid there) there (held_work mid.work) inner) (sym inner_is))
        result next_state after goes

    was_called : (called : Called) → step_at setting (scope_frame old (stands_in_body one)) before pick.pick work ≡ Ok (asks_call (view_called called) (held_work mid.work)) → later ≡ before →
        Advances (λ world. calling setting (view_machine mid world) (held_work mid.work) (view_purpose (view_site mid.site) one) (view_called called) (view_called called).callee) result next_state
        (around kept later mid_limit host) after → Advances piece result next_state (around kept before limit host) after
    was_called called is memory goes =
        advances_from piece (λ (world : World). calling setting (view_machine mid world) (held_work mid.work) (view_purpose (view_site mid.site) one) (view_called called) (view_called called).callee)
        kept before later limit mid_limit host limit_is
        (λ made ahead.
        evaluated (world_at (around kept before limit host) made ahead) (Ok (asks_call (view_called called) (held_work mid.work))) is
        ∙ ap (λ (terms : Option Limit). calling setting (view_machine mid (world_at (around kept before terms host) made ahead)) (held_work mid.work) purpose_in (view_called called) (view_called called).callee) (sym limit_is)
        ∙ ap (λ (blocks : Blocks). calling setting (view_machine mid (world_at (around kept blocks mid_limit host) made ahead)) (held_work mid.work) purpose_in (view_called called) (view_called called).callee) (sym memory)
        ∙ ap (λ (inner : CPurpose). calling setting (view_machine mid (world_at (around kept later mid_limit host) made ahead)) (held_work mid.work) inner (view_called called) (view_called called).callee) (sym inner_is))
        result next_state after goes

    was_undefined : (rule : URule) (place : Place) → step_at setting (scope_frame old (stands_in_body one)) before pick.pick work ≡ Err (record { why = breaks rule; place = place }) →
        Quiet (around kept later mid_limit host) after → Advances piece (Err (stop.Undefined rule place)) next_state (around kept before limit host) after
    was_undefined rule place is quiet = record {
      quiet = quiet_from kept before later limit mid_limit host after limit_is quiet;
      stops = λ made ahead.
          subst (λ (state : CState). IsStopped (has_stopped (stops (breaks rule) place)) made ahead state)
          (sym (evaluated (world_at (around kept before limit host) made ahead) (Err (record { why = breaks rule; place = place })) is))
          (record { control_is = refl; made_is = refl; answers_are = refl });
    }

    -- a step, and what follows behind it
    pub followed : (which : Next) → Takes (Ok which) setting (scope_frame old (stands_in_body one)) before later pick.pick work (held_work mid.work) →
        Follows which result setting mid one next_state (around kept later mid_limit host) after → Advances piece result next_state (around kept before limit host) after
    followed next.Stepped takes goes = was_stepped takes.1 goes
    followed (next.Calls called) takes goes = was_called called takes.1 takes.2 goes
    followed (next.Undefined rule place) takes goes =
        subst (λ (found : Result (Unit {0}) Stop). Advances piece found next_state (around kept before limit host) after) (sym goes.0) (was_undefined rule place takes.1 goes.1)

-- ---- calls

none_told : (told : Option (List Made)) → told ≡ option_map (λ made. made ++ []) told
none_told None = refl
none_told (Some made) = ap Some (sym (append-nil made))

-- a step that has no part in memory or the outside
unmoved : (step next_state : World → CState) (at : Around) → ((world : World) → step world ≡ next_state world) → Comes step next_state at at
unmoved step next_state at is = record {
  between = record {
    answers = [];
    calls = [];
    trail = sym (append-nil at.trail);
    told = none_told at.host.made;
    given = refl;
    taken_by = tt;
    limit = refl;
    takes = refl;
    later = omega arith;
  };
  goes = λ made ahead. is (world_at at made ahead) ∙ ap (λ (calls : List Made). next_state (world_at at calls ahead)) (sym (append-nil made));
}

pub calls_out : (setting : CSetting) (old : Machine) (inner : CPurpose) (called : CCalled) (one : Callee) (outer : Bor Outer) (result : Result (Unit {0}) Stop) (next_state : World → CState) (before after : Around) → one ≡ callee.External outer →
    Advances (λ world. answered_with (view_machine old world) old.work inner (external_call setting called (view_outer outer.now) world)) result next_state before after →
    Advances (λ world. calling setting (view_machine old world) (held_work old.work) inner called (view_callee one)) result next_state before after
calls_out setting old inner called one outer result next_state before after is goes =
    subst (λ (which : Callee). Advances (λ (world : World). calling setting (view_machine old world) (held_work old.work) inner called (view_callee which)) result next_state before after) (sym is) goes

pub calls_in : (setting : CSetting) (old new : Machine) (inner : CPurpose) (called : CCalled) (one : Callee) (fun : Bor Fun) (kept : KeptState) (before : Blocks) (limit : Option Limit) (host : HostState) → one ≡ callee.Defined fun →
    ((world : World) → called_own (view_machine old world) (held_work old.work) inner (view_function fun.now) called.args ≡ view_machine new world) →
    Comes (λ world. calling setting (view_machine old world) (held_work old.work) inner called (view_callee one)) (view_machine new) (around kept before limit host) (around kept before limit host)
calls_in setting old new inner called one fun kept before limit host is goes =
    subst (λ (which : Callee). Comes (λ (world : World). calling setting (view_machine old world) (held_work old.work) inner called (view_callee which)) (view_machine new) (around kept before limit host) (around kept before limit host))
    (sym is)
    (unmoved (λ (world : World). called_own (view_machine old world) (held_work old.work) inner (view_function fun.now) called.args) (view_machine new) (around kept before limit host) goes)
