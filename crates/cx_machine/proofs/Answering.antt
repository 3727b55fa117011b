-- Calls that are answered, as steps of a run.
use Rattle.std.proofs.Common.{◌≡◌, ◌∙◌, inr, refl, sym, ap, subst, append-nil, ℤ, List, [], ◌++◌, Option, Some, None, Ok, Err}
use Rattle.cr_world.specs.World.{World, with_memory, trail_of, full, asks}
use Rattle.cx_mean.specs.Calls.{COutcome, returns_value, ends_with}
use Rattle.cx_mean.specs.Moves.{CPurpose, puts_it, drops_it, turns_on, gives_it, chooses_by}
use Rattle.cx_mean.specs.Operands.{COperand, CValue, CStop, breaks, stops}
use Rattle.cx_mean.specs.State.{has_ended, has_stopped, CState, answered_by, finished_for, going_on}
use Rattle.cx_mean.specs.Work.{CWork, finished, needs, chooses, tests, carries, updates, fills, waits, resumed}
use Rattle.cx_moves.specs.declared.moves.Purpose.{Purpose}
use Rattle.cx_moves.specs.Sites.{view_purpose, view_site}
use Rattle.cx_outside.specs.Called.{IsEnded, Calls}
use Rattle.cx_outside.specs.Comes.{Comes}
use Rattle.cx_outside.specs.States.{Around, KeptState, around, world_at}
use Rattle.cx_outside.specs.Wanting.{HasMade, Wants, CallWants, world_called}
use Rattle.cx_outside.proofs.Wanting.{wants_by}
use Rattle.cx_outside.specs.declared.calls.Halt.{Halt}
use Rattle.cx_outside.specs.declared.calls.Halt.TheVariants as halt
use Rattle.cx_outside.specs.declared.outside.Lack.TheVariants as lack
use Rattle.cx_work.specs.declared.work.Work.{Work}
use Rattle.ext_calls.specs.declared.call.Made.{Made}
use Rattle.ext_calls.specs.Host.{HostState}
use Rattle.mem_bytes.specs.Counted.{Limit}
use Rattle.mem_bytes.specs.Memory.{Blocks}
use Rattle.cx_machine.specs.Answers.{held_work, answered_with, GoesOnAs, stop_of}
use Rattle.cx_machine.specs.declared.machine.Machine.{Machine}
use Rattle.cx_machine.specs.Machines.{view_machine, GoesTo, going_next}
use Rattle.cx_machine.specs.Steps.{IsStopped, Stops, Advances}
use Rattle.cx_machine.proofs.Landing.{lands, going_on_is}

-- a full expression that goes on makes no call
finished_made : (state : CState) (world : World) (operand : COperand) (purpose : CPurpose) (made : List Made) → HasMade made (Some world) → HasMade made (Some (finished_for state world operand purpose).world)
finished_made state world operand (puts_it place one) made has = has
finished_made state world operand (drops_it site) made has = has
finished_made state world operand (turns_on site) made has = has
finished_made state world operand (gives_it place site) made has = has
finished_made state world operand (chooses_by place site) made has = has

going_made : (state : CState) (world : World) (work : CWork) (purpose : CPurpose) (made : List Made) → HasMade made (Some world) → HasMade made (Some (going_on state world work purpose).world)
going_made state world (finished operand) purpose made has = finished_made state world operand purpose made has
going_made state world (needs node operands) purpose made has = has
going_made state world (chooses node first) purpose made has = has
going_made state world (tests node marks second) purpose made has = has
going_made state world (carries node marks part) purpose made has = has
going_made state world (updates node update stage marks) purpose made has = has
going_made state world (fills node marks one others value) purpose made has = has
going_made state world (waits node marks) purpose made has = has

module _ (old : Machine) (work : CWork) (purpose : CPurpose) (call : World → COutcome) where
  abbrev piece : World → CState
  piece world = answered_by (view_machine old world) work purpose (call world)

  -- ---- it goes no further

  stops_as : (made : List Made) (ahead : List ℤ) (at : Around) (why : CStop) → call (world_at at made ahead) ≡ Err why →
      IsStopped (has_stopped why) made ahead (piece (world_at at made ahead))
  stops_as made ahead at why is =
      subst (λ (state : CState). IsStopped (has_stopped why) made ahead state)
      (sym (ap (λ (one : COutcome). answered_by (view_machine old (world_at at made ahead)) work purpose one) is))
      (record { control_is = refl; made_is = refl; answers_are = refl })

  ends_as : (made : List Made) (ahead : List ℤ) (at : Around) (status : ℤ) → call (world_at at made ahead) ≡ Ok (ends_with status (world_at at made ahead)) →
      IsStopped (has_ended status) made ahead (piece (world_at at made ahead))
  ends_as made ahead at status is =
      subst (λ (state : CState). IsStopped (has_ended status) made ahead state)
      (sym (ap (λ (one : COutcome). answered_by (view_machine old (world_at at made ahead)) work purpose one) is))
      (record { control_is = refl; made_is = refl; answers_are = refl })

  pub answer_ends : (status : ℤ) (before after : Around) → IsEnded call status before after → Stops piece (has_ended status) before after
  answer_ends status before after one = record { quiet = one.quiet; stops = λ made ahead. ends_as made ahead before status (one.ends made ahead) }

  -- a call that comes to a world leads to a state in it
  called_world : (state : CState) (more : List Made) (found : COutcome) → HasMade more (world_called found) → HasMade more (Some (answered_by state work purpose found).world)
  called_world state more (Ok (returns_value value world)) has = going_made state world (resumed value work) purpose more has
  called_world state more (Ok (ends_with status world)) has = has
  called_world state more (Err why) has = absurd has

  pub answer_wants : (before after : Around) → Wants (λ world. world_called (call world)) before after → Wants (λ world. Some (piece world).world) before after
  answer_wants before after wants =
      wants_by (λ world. Some (piece world).world) (λ world. world_called (call world)) before after
      (λ made more ahead has. called_world (view_machine old (world_at before made ahead)) more (call (world_at before made ahead)) has) wants

  -- the call was answered, and the full expression couldn't go on with its value
  pub answer_unused : (value : CValue) (before mid after : Around) → after.host ≡ mid.host → Comes call (λ world. Ok (returns_value value world)) before mid → Wants (λ world. Some (piece world).world) before after
  answer_unused value before mid after same comes = subst (λ (host : HostState). Wants (λ world. Some (piece world).world) before (record after { host = host })) (sym same) (inr (record {
    answers = comes.between.answers;
    calls = comes.between.calls;
    told = comes.between.told;
    given = comes.between.given;
    taken_by = comes.between.taken_by;
    takes = comes.between.takes;
    shows = λ made.
        let at : World = world_at before made comes.between.answers in
        let there : World = world_at mid (made ++ comes.between.calls) [] in
        let is : call at ≡ Ok (returns_value value there) =
        ap (λ (answers : List ℤ). call (world_at before made answers)) (sym (append-nil comes.between.answers)) ∙ comes.goes made [] in
        called_world (view_machine old at) (made ++ comes.between.calls) (call at)
        (subst (λ (found : COutcome). HasMade (made ++ comes.between.calls) (world_called found)) (sym is) (refl, refl));
  }))

  pub answer_stops : (halt : Halt) (next : World → CState) (before after : Around) → Calls call (Err halt) before after → CallWants call (Err halt) before after → Advances piece (Err (stop_of halt)) next before after
  answer_stops (halt.Undefined rule place) next before after one wants =
      record { quiet = one.quiet; stops = λ made ahead. stops_as made ahead before (stops (breaks rule) place) (one.stops made ahead) }
  answer_stops (halt.Lacks (lack.Full need left)) next before after one wants =
      record { quiet = one.quiet; stops = λ made ahead. stops_as made ahead before (full need left) (one.stops made ahead) }
  answer_stops (halt.Lacks (lack.Refused name)) next before after one wants = record {
    call = one.call;
    named = one.named;
    declined = one.declined;
    asks = record { quiet = one.asks.quiet; stops = λ made. stops_as made [] before (asks one.call) (one.asks.stops made) };
  }
  answer_stops (halt.Lacks lack.Failed) next before after one wants = record {
    call = one.call;
    taken = one.taken;
    rose = one.rose;
    asks = record { quiet = one.asks.quiet; stops = λ made. stops_as made [] before (asks one.call) (one.asks.stops made) };
  }
  answer_stops (halt.Lacks lack.Memory) next before after one wants = answer_wants before after wants

  -- ---- it gives a value

  pub answer_gives : (new : Machine) (value : CValue) (before : Around) (kept : KeptState) (between after : Blocks) (limit later : Option Limit) (host : HostState) → later ≡ limit →
      Comes call (λ world. Ok (returns_value value world)) before (around kept between limit host) → GoesTo old new (going_next (resumed value work) purpose between) after →
      Comes piece (view_machine new) before (around kept after later host)
  answer_gives new value before kept between after limit later host same comes goes = record {
    between = record {
      answers = comes.between.answers;
      calls = comes.between.calls;
      trail = comes.between.trail;
      told = comes.between.told;
      given = comes.between.given;
      taken_by = comes.between.taken_by;
      limit = same ∙ comes.between.limit;
      takes = comes.between.takes;
      later = comes.between.later;
    };
    goes = λ made ahead.
        let at : World = world_at before made (comes.between.answers ++ ahead) in
        let there : World = world_at (around kept between limit host) (made ++ comes.between.calls) ahead in
        ap (λ (one : COutcome). answered_by (view_machine old at) work purpose one) (comes.goes made ahead)
        ∙ going_on_is (view_machine old at) (resumed value work) purpose between there
        ∙ lands new old (going_next (resumed value work) purpose between) after there goes
        ∙ ap (λ (terms : Option Limit). view_machine new (record (with_memory after there) { terms = trail_of terms })) (sym same);
  }

pub goes_on_by : (work : Option Work) (old new : Machine) (purpose : Purpose) (call : World → COutcome) (value : CValue) (before : Around) (kept : KeptState) (between after : Blocks)
    (limit later : Option Limit) (host : HostState) → later ≡ limit →
    Comes call (λ world. Ok (returns_value value world)) before (around kept between limit host) → GoesOnAs old new work purpose value between after →
    Comes (λ world. answered_with (view_machine old world) work (view_purpose (view_site old.site) purpose) (call world)) (view_machine new) before (around kept after later host)
goes_on_by None old new purpose call value before kept between after limit later host same comes goes = absurd goes
goes_on_by (Some work) old new purpose call value before kept between after limit later host same comes goes =
    answer_gives old (held_work (Some work)) (view_purpose (view_site old.site) purpose) call new value before kept between after limit later host same comes goes

pub unused_by : (work : Option Work) (old : Machine) (purpose : Purpose) (call : World → COutcome) (value : CValue) (before mid after : Around) → after.host ≡ mid.host →
    Comes call (λ world. Ok (returns_value value world)) before mid →
    Wants (λ world. Some (answered_with (view_machine old world) work (view_purpose (view_site old.site) purpose) (call world)).world) before after
unused_by work old purpose call value before mid after same comes = answer_unused old (held_work work) (view_purpose (view_site old.site) purpose) call value before mid after same comes
