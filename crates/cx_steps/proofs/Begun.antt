-- Objects that begin, as steps of a run.
use Rattle.std.proofs.Common.{◌≡◌, ◌∙◌, inl, refl, sym, ap, subst, ℕ, ℤ, Bool, false, List, [], ◌∷◌, ◌++◌, map, reverse, Option, Result, Ok, Err}
use Rattle.cr_base.specs.declared.layout.Laid.{Laid}
use Rattle.cr_base.specs.declared.refusal.Place.{Place}
use Rattle.cr_base.specs.declared.rule.URule.{URule}
use Rattle.cr_world.specs.World.{World, Got, with_memory, blocks_of, trail_of, full, asks, object_begun}
use Rattle.cx_core.specs.Trees.{CTy, CFun}
use Rattle.cx_machine.specs.declared.machine.Machine.{Machine}
use Rattle.cx_machine.specs.declared.stop.Stop.{Stop}
use Rattle.cx_machine.specs.declared.stop.Stop.TheVariants as stop
use Rattle.cx_machine.specs.Machines.{CNext, GoesTo, view_machine}
use Rattle.cx_machine.specs.Steps.{IsStopped, Advances}
use Rattle.cx_machine.proofs.Landing.{lands}
use Rattle.cx_mean.specs.Accesses.{CStored}
use Rattle.cx_mean.specs.Moves.{CBeginning, CStand, beginning}
use Rattle.cx_mean.specs.Operands.{CWhy, breaks, CFault, CStop, stops, CValue, Frame}
use Rattle.cx_mean.specs.Settings.{CSetting}
use Rattle.cx_mean.specs.State.{CState, has_stopped, at_control, stopped, CShape, shape_of, as_stop, no_place, slot, with_slot, object_begins, after_begin, param_begins, after_param, place_of_body, taking, control_of}
use Rattle.cx_outside.specs.Comes.{Comes, got, Steps}
use Rattle.cx_outside.specs.States.{Around, KeptState, around, world_at}
use Rattle.cx_outside.specs.Wanting.{HostKept}
use Rattle.cx_outside.proofs.Wanting.{host_alone}
use Rattle.cx_outside.specs.declared.outside.Lack.{Lack}
use Rattle.cx_outside.specs.declared.outside.Lack.TheVariants as lack
use Rattle.cx_work.specs.Views.{view_finished}
use Rattle.ext_calls.specs.declared.call.Made.{Made}
use Rattle.ext_calls.specs.Host.{HostState}
use Rattle.mem_bytes.specs.Access.{and_then}
use Rattle.mem_bytes.specs.Counted.{Limit}
use Rattle.mem_bytes.specs.declared.value.Ptr.{Ptr}
use Rattle.mem_bytes.specs.Memory.{Blocks}
use Rattle.cx_steps.specs.Given.{IsStored, argument_at, Argues}
use Rattle.cx_steps.proofs.Advancing.{quiet_at}

-- ---- where the store is full, or memory is wanting

module _ (old : Machine) (piece : World → CState) (is_zero : Bool) (size align : ℕ)
    (stops_by : (world : World) (why : CStop) → object_begun is_zero size align world ≡ Err why → piece world ≡ stopped (view_machine old world) why) where
  stops_as : (made : List Made) (ahead : List ℤ) (at : Around) (why : CStop) → object_begun is_zero size align (world_at at made ahead) ≡ Err why →
      IsStopped (has_stopped why) made ahead (piece (world_at at made ahead))
  stops_as made ahead at why is =
      subst (λ (state : CState). IsStopped (has_stopped why) made ahead state) (sym (stops_by (world_at at made ahead) why is))
      (record { control_is = refl; made_is = refl; answers_are = refl })

  pub begun_lacks : (why : Lack) (next : World → CState) (before after : Around) → HostKept before.host after.host → Steps {A = Ptr} (object_begun is_zero size align) (Err why) before after →
      Advances piece (Err (stop.Lacks why)) next before after
  begun_lacks (lack.Full need left) next before after kept found =
      record { quiet = found.quiet; stops = λ made ahead. stops_as made ahead before (full need left) (found.stops made ahead) }
  begun_lacks (lack.Refused name) next before after kept found = record {
    call = found.call;
    named = found.named;
    declined = found.declined;
    asks = record { quiet = found.asks.quiet; stops = λ made. stops_as made [] before (asks found.call) (found.asks.stops made) };
  }
  begun_lacks lack.Failed next before after kept found = record {
    call = found.call;
    taken = found.taken;
    rose = found.rose;
    asks = record { quiet = found.asks.quiet; stops = λ made. stops_as made [] before (asks found.call) (found.asks.stops made) };
  }
  begun_lacks lack.Memory next before after kept found = inl kept

-- ---- where it begins

pub begun_goes : (old new : Machine) (piece : World → CState) (is_zero : Bool) (size align : ℕ) (at : Ptr) (kept : KeptState) (before mid after : Blocks) (limit mid_limit later : Option Limit) (host : HostState) (next : CNext) →
    later ≡ mid_limit →
    ((world there : World) → object_begun {F = CFault} is_zero size align world ≡ Ok (record { value = at; world = there }) → blocks_of there ≡ mid →
    piece world ≡ at_control (view_machine old there) (with_memory next.blocks there) next.control) →
    GoesTo old new next after → Comes (object_begun {F = CFault} is_zero size align) (got at) (around kept before limit host) (around kept mid mid_limit host) →
    Comes piece (view_machine new) (around kept before limit host) (around kept after later host)
begun_goes old new piece is_zero size align at kept before mid after limit mid_limit later host next same is goes comes = record {
  between = record {
    answers = comes.between.answers;
    calls = comes.between.calls;
    trail = comes.between.trail;
    told = comes.between.told;
    given = comes.between.given;
    taken_by = comes.between.taken_by;
    limit = same ∙ comes.between.limit;
    takes = comes.between.takes;
    later = comes.between.later;
  };
  goes = λ made ahead.
      let there : World = world_at (around kept mid mid_limit host) (made ++ comes.between.calls) ahead in
      is (world_at (around kept before limit host) made (comes.between.answers ++ ahead)) there (comes.goes made ahead) refl
      ∙ lands new old next after there goes
      ∙ ap (λ (terms : Option Limit). view_machine new (record (with_memory after there) { terms = trail_of terms })) (sym same);
}

-- ---- objects of blocks

module _ (setting : CSetting) (old : Machine) (one : CBeginning) (type : CTy) (laid : Laid) (shape : shape_of setting one.object ≡ Ok (record { type = type; laid = laid })) where
  abbrev block_piece : World → CState
  block_piece world = after_begin setting (view_machine old world) one (object_begins setting no_place one.object world)

  begins_by : (world : World) → block_piece world ≡ after_begin setting (view_machine old world) one (object_begun false laid.size laid.align world)
  begins_by world =
      ap (λ (found : Result CShape CWhy). after_begin setting (view_machine old world) one
      (and_then (as_stop no_place found) (λ which. object_begun false which.laid.size which.laid.align world))) shape

  pub block_lacks : (why : Lack) (next : World → CState) (before after : Around) → HostKept before.host after.host → Steps {A = Ptr} (object_begun false laid.size laid.align) (Err why) before after →
      Advances block_piece (Err (stop.Lacks why)) next before after
  block_lacks why next before after kept found =
      begun_lacks old block_piece false laid.size laid.align
      (λ world stop is. begins_by world ∙ ap (λ (result : Result (Got Ptr) CStop). after_begin setting (view_machine old world) one result) is) why next before after kept found

  pub block_begun : (new : Machine) (at : Ptr) (kept : KeptState) (before mid after : Blocks) (limit mid_limit later : Option Limit) (host : HostState) (stand : CStand) → later ≡ mid_limit →
      stand ≡ beginning setting one.others one.goal (with_slot (slot one.object at) one.level) one.outer mid → GoesTo old new (record { control = control_of stand.move; blocks = stand.blocks }) after →
      Comes (object_begun {F = CFault} false laid.size laid.align) (got at) (around kept before limit host) (around kept mid mid_limit host) →
      Comes block_piece (view_machine new) (around kept before limit host) (around kept after later host)
  block_begun new at kept before mid after limit mid_limit later host stand same stand_is goes comes =
      begun_goes old new block_piece false laid.size laid.align at kept before mid after limit mid_limit later host (record { control = control_of stand.move; blocks = stand.blocks }) same
      (λ world there is blocks.
      begins_by world
      ∙ ap (λ (result : Result (Got Ptr) CStop). after_begin setting (view_machine old world) one result) is
      ∙ ap (λ (memory : Blocks). at_control (view_machine old there) (with_memory (beginning setting one.others one.goal (with_slot (slot one.object at) one.level) one.outer memory).blocks there)
      (control_of (beginning setting one.others one.goal (with_slot (slot one.object at) one.level) one.outer memory).move)) blocks
      ∙ ap (λ (next : CStand). at_control (view_machine old there) (with_memory next.blocks there) (control_of next.move)) (sym stand_is))
      goes comes

-- ---- parameters

nothing_taken : (trail answers : List ℤ) → trail ≡ trail ++ answers → answers ≡ []
nothing_taken [] answers is = sym is
nothing_taken (first ∷ others) answers is = nothing_taken others answers (rest_is first others (others ++ answers) is)
  where
    rest_is : (one : ℤ) (left right : List ℤ) → one ∷ left ≡ one ∷ right → left ≡ right
    rest_is one left right same = cc

module _ (setting : CSetting) (old : Machine) (callee : CFun) (number : ℕ) (others : List ℕ) (args : List CValue) (frame : Frame) (value : CValue) (type : CTy) (laid : Laid)
    (shape : shape_of setting number ≡ Ok (record { type = type; laid = laid })) where
  abbrev param_piece : World → CState
  param_piece world = after_param (view_machine old world) callee number others args frame (param_begins setting (place_of_body callee.body) number value world)

  -- the argument is stored
  abbrev stored_as : Got Ptr → Result CStored CWhy → Result (Got Ptr) CStop
  stored_as one found = and_then (as_stop (place_of_body callee.body) found) (λ done. Ok (record { value = one.value; world = with_memory done.blocks one.world }))

  abbrev argued : Result (Got Ptr) CStop → Result (Got Ptr) CStop
  argued found = and_then found (λ one. stored_as one (argument_at setting (blocks_of one.world) type one.value value))

  abbrev by_shape : World → Result CShape CWhy → Result (Got Ptr) CStop
  by_shape world found =
      and_then (and_then (as_stop (place_of_body callee.body) found) (λ which. object_begun false which.laid.size which.laid.align world)) (λ one.
      and_then (as_stop (place_of_body callee.body) found) (λ which. stored_as one (argument_at setting (blocks_of one.world) which.type one.value value)))

  param_by : (world : World) → param_piece world ≡ after_param (view_machine old world) callee number others args frame (argued (object_begun false laid.size laid.align world))
  param_by world = ap (λ (found : Result CShape CWhy). after_param (view_machine old world) callee number others args frame (by_shape world found)) shape

  pub param_lacks : (why : Lack) (next : World → CState) (before after : Around) → HostKept before.host after.host → Steps {A = Ptr} (object_begun false laid.size laid.align) (Err why) before after →
      Advances param_piece (Err (stop.Lacks why)) next before after
  param_lacks why next before after kept found =
      begun_lacks old param_piece false laid.size laid.align
      (λ world stop is. param_by world ∙ ap (λ (result : Result (Got Ptr) CStop). after_param (view_machine old world) callee number others args frame (argued result)) is) why next before after kept found

  argued_by : (world there : World) (at : Ptr) (mid : Blocks) → object_begun {F = CFault} false laid.size laid.align world ≡ Ok (record { value = at; world = there }) → blocks_of there ≡ mid →
      param_piece world ≡ after_param (view_machine old world) callee number others args frame (stored_as (record { value = at; world = there }) (argument_at setting mid type at value))
  argued_by world there at mid is blocks =
      param_by world
      ∙ ap (λ (result : Result (Got Ptr) CStop). after_param (view_machine old world) callee number others args frame (argued result)) is
      ∙ ap (λ (memory : Blocks). after_param (view_machine old world) callee number others args frame (stored_as (record { value = at; world = there }) (argument_at setting memory type at value))) blocks

  module _ (new : Machine) (at : Ptr) (kept : KeptState) (before mid after : Blocks) (limit mid_limit later : Option Limit) (host : HostState) (same : later ≡ mid_limit)
      (comes : Comes (object_begun {F = CFault} false laid.size laid.align) (got at) (around kept before limit host) (around kept mid mid_limit host)) where
    -- the argument has its place
    taken_by : (found : Result CStored CWhy) → argument_at setting mid type at value ≡ found → IsStored found after → GoesTo old new (record { control = taking callee others args (frame ++ slot number at ∷ []); blocks = after }) after →
        Comes param_piece (view_machine new) (around kept before limit host) (around kept after later host)
    taken_by (Ok done) found_is memory goes =
        begun_goes old new param_piece false laid.size laid.align at kept before mid after limit mid_limit later host (record { control = taking callee others args (frame ++ slot number at ∷ []); blocks = after }) same
        (λ world there is blocks.
        argued_by world there at mid is blocks
        ∙ ap (λ (result : Result CStored CWhy). after_param (view_machine old world) callee number others args frame (stored_as (record { value = at; world = there }) result)) found_is
        ∙ ap (λ (left : Blocks). at_control (view_machine old there) (with_memory left there) (taking callee others args (frame ++ slot number at ∷ []))) memory)
        goes comes
    taken_by (Err why) found_is memory goes = elim memory [ ]

    -- no answer is taken where an object begins
    none_taken : comes.between.answers ≡ []
    none_taken = nothing_taken kept.trail comes.between.answers comes.between.trail

    begun_at : (made : List Made) (ahead : List ℤ) →
        object_begun {F = CFault} false laid.size laid.align (world_at (around kept before limit host) made ahead)
        ≡ Ok (record { value = at; world = world_at (around kept mid mid_limit host) (made ++ comes.between.calls) ahead })
    begun_at made ahead =
        ap (λ (answers : List ℤ). object_begun {F = CFault} false laid.size laid.align (world_at (around kept before limit host) made (answers ++ ahead))) (sym none_taken) ∙ comes.goes made ahead

    undefined_by : (rule : URule) → argument_at setting mid type at value ≡ Err (breaks rule) → (made : List Made) (ahead : List ℤ) →
        IsStopped (has_stopped (stops (breaks rule) (place_of_body callee.body))) made ahead (param_piece (world_at (around kept before limit host) made ahead))
    undefined_by rule found_is made ahead =
        let here : World = world_at (around kept before limit host) made ahead in
        let there : World = world_at (around kept mid mid_limit host) (made ++ comes.between.calls) ahead in
        subst (λ (state : CState). IsStopped (has_stopped (stops (breaks rule) (place_of_body callee.body))) made ahead state)
        (sym (argued_by here there at mid (begun_at made ahead) refl
        ∙ ap (λ (result : Result CStored CWhy). after_param (view_machine old here) callee number others args frame (stored_as (record { value = at; world = there }) result)) found_is))
        (record { control_is = refl; made_is = refl; answers_are = refl })

    pub param_argues : (result : Result (Unit {0}) Stop) → frame ≡ old.site.params → Argues result (argument_at setting mid type at value) old new callee number others at after →
        reverse (map view_finished old.args) ≡ args → Advances param_piece result (view_machine new) (around kept before limit host) (around kept after later host)
    param_argues (Ok _) frame_is argues args_are =
        taken_by (argument_at setting mid type at value) refl argues.0
        (subst (λ (list : Frame). GoesTo old new (record { control = taking callee others args (list ++ slot number at ∷ []); blocks = after }) after) (sym frame_is)
        (subst (λ (list : List CValue). GoesTo old new (record { control = taking callee others list (old.site.params ++ slot number at ∷ []); blocks = after }) after) args_are
        (record { at = argues.1; memory = refl })))
    param_argues (Err (stop.Undefined rule place)) frame_is argues args_are =
        subst (λ (where_at : Place). Advances param_piece (Err (stop.Undefined rule where_at)) (view_machine new) (around kept before limit host) (around kept after later host)) (sym argues.1)
        (record { quiet = quiet_at kept before after limit later host (same ∙ comes.between.limit); stops = undefined_by rule argues.0 })
    param_argues (Err (stop.Ended status)) frame_is argues args_are = elim argues [ ]
    param_argues (Err (stop.Lacks why)) frame_is argues args_are =
        subst (λ (one : Lack). Advances param_piece (Err (stop.Lacks one)) (view_machine new) (around kept before limit host) (around kept after later host)) (sym argues) (inl (host_alone host))
