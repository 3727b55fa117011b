-- States in which a run stands.
use Rattle.std.proofs.Common.{◌≡◌, ◌∙◌, refl, sym, ap, arith, ℕ, List, [], ◌∷◌, ◌++◌, map, reverse, Option, Some, None, option_map, append-nil}
use Rattle.std.proofs.lemmas.List.{map-append, reverse-append}
use Rattle.cr_world.specs.World.{World, with_memory, trail_of}
use Rattle.cx_mean.specs.Moves.{CPurpose, puts_it, drops_it, turns_on, gives_it, chooses_by, without_objects, slots_of_site}
use Rattle.cx_mean.specs.Operands.{CValue, Frame}
use Rattle.cx_mean.specs.State.{CCaller, CControl, CState, at_control, going_on, returned_to, returning, given_back}
use Rattle.cx_mean.specs.Work.{CWork, finished, needs, chooses, tests, carries, updates, fills, waits, resumed}
use Rattle.cx_moves.specs.Sites.{view_purpose, view_site}
use Rattle.cx_outside.specs.Comes.{Comes}
use Rattle.cx_outside.specs.States.{KeptState, around, world_at}
use Rattle.cx_work.specs.Views.{view_work}
use Rattle.ext_calls.specs.declared.call.Made.{Made}
use Rattle.ext_calls.specs.Host.{HostState}
use Rattle.mem_bytes.specs.Counted.{Limit}
use Rattle.mem_bytes.specs.Memory.{Blocks}
use Rattle.cx_machine.specs.declared.machine.Caller.{Caller}
use Rattle.cx_machine.specs.declared.machine.Machine.{Machine}
use Rattle.cx_machine.specs.Machines.{view_caller, view_control, callers_of, view_machine, CNext, GoesTo, going_next}
use Rattle.cx_machine.specs.Returns.{Resumes}

abbrev state_with : CControl → Frame → List CCaller → World → List ℕ → CState
state_with control statics callers world order = record { control = control; statics = statics; callers = callers; world = world; order = order }

-- a state by its parts
pub lands : (new base : Machine) (next : CNext) (after : Blocks) (world : World) → GoesTo base new next after →
    at_control (view_machine base world) (with_memory next.blocks world) next.control ≡ view_machine new (with_memory after world)
lands new base next after world goes =
    ap (λ (control : CControl). state_with control base.statics (callers_of base.callers) (with_memory next.blocks world) base.order.now) (sym goes.at.control)
    ∙ ap (λ (statics : Frame). state_with (view_control new) statics (callers_of base.callers) (with_memory next.blocks world) base.order.now) (sym goes.at.statics)
    ∙ ap (λ (callers : List CCaller). state_with (view_control new) new.statics callers (with_memory next.blocks world) base.order.now) (sym goes.at.callers)
    ∙ ap (λ (order : List ℕ). state_with (view_control new) new.statics (callers_of new.callers) (with_memory next.blocks world) order) (sym goes.at.order)
    ∙ ap (λ (blocks : Blocks). view_machine new (with_memory blocks world)) goes.memory

pub none_told : (told : Option (List Made)) → told ≡ option_map (λ made. made ++ []) told
none_told None = refl
none_told (Some made) = ap Some (sym (append-nil made))

-- a step of a store alone
pub at_comes : (piece : World → CState) (base new : Machine) (next : CNext) (before after : Blocks) (limit later : Option Limit) → later ≡ limit → GoesTo base new next after →
    ((world : World) → piece (with_memory before world) ≡ at_control (view_machine base world) (with_memory next.blocks world) next.control) →
    (kept : KeptState) (host : HostState) → Comes piece (view_machine new) (around kept before limit host) (around kept after later host)
at_comes piece base new next before after limit later same goes is kept host = record {
  between = record {
    answers = [];
    calls = [];
    trail = sym (append-nil kept.trail);
    told = none_told host.made;
    given = refl;
    taken_by = tt;
    limit = same;
    takes = refl;
    later = omega arith;
  };
  goes = λ made ahead.
      let world = world_at (around kept before limit host) made ahead in
      is world ∙ lands new base next after world goes
      ∙ ap (λ (terms : Option Limit). view_machine new (record (with_memory after world) { terms = trail_of terms })) (sym same)
      ∙ ap (λ (calls : List Made). view_machine new (world_at (around kept after later host) calls ahead)) (sym (append-nil made));
}

-- ---- full expressions that go on

pub going_on_is : (state : CState) (work : CWork) (purpose : CPurpose) (blocks : Blocks) (world : World) →
    going_on state (with_memory blocks world) work purpose ≡ at_control state (with_memory (going_next work purpose blocks).blocks world) (going_next work purpose blocks).control
going_on_is state (finished operand) (puts_it place one) blocks world = refl
going_on_is state (finished operand) (drops_it site) blocks world = refl
going_on_is state (finished operand) (turns_on site) blocks world = refl
going_on_is state (finished operand) (gives_it place site) blocks world = refl
going_on_is state (finished operand) (chooses_by place site) blocks world = refl
going_on_is state (needs node operands) purpose blocks world = refl
going_on_is state (chooses node first) purpose blocks world = refl
going_on_is state (tests node marks second) purpose blocks world = refl
going_on_is state (carries node marks part) purpose blocks world = refl
going_on_is state (updates node update stage marks) purpose blocks world = refl
going_on_is state (fills node marks one others value) purpose blocks world = refl
going_on_is state (waits node marks) purpose blocks world = refl

-- ---- returns

pub newest : (all others : List Caller) (caller : Caller) → all ≡ others ++ caller ∷ [] → callers_of all ≡ view_caller caller ∷ callers_of others
newest all others caller is =
    ap (λ (list : List Caller). callers_of list) is
    ∙ ap (λ (list : List CCaller). reverse list) (map-append view_caller others (caller ∷ [])) ∙ reverse-append (map view_caller others) (view_caller caller ∷ [])

pub returns_back : (old mid new : Machine) (caller : Caller) (value : CValue) (before killed after : Blocks) (limit later : Option Limit) → later ≡ limit →
    old.callers ≡ mid.callers ++ caller ∷ [] → mid.statics ≡ old.statics → mid.order.now ≡ old.order.now →
    killed ≡ without_objects (slots_of_site (view_site old.site)) before → Resumes mid new caller (given_back value) killed after →
    (kept : KeptState) (host : HostState) →
    Comes (λ world. returning (view_machine old world) value (view_site old.site)) (view_machine new) (around kept before limit host) (around kept after later host)
returns_back old mid new caller value before killed after limit later same callers statics order died resumes =
    at_comes (λ world. returning (view_machine old world) value (view_site old.site)) mid new
    (going_next (resumed (given_back value) (view_work caller.work)) (view_purpose (view_site caller.site) caller.purpose) killed) before after limit later same resumes
    (λ world.
    let here : World = with_memory before world in
    let dead : Blocks = without_objects (slots_of_site (view_site old.site)) before in
    ap (λ (list : List CCaller). returned_to (view_machine old here) (with_memory dead world) (given_back value) list) (newest old.callers mid.callers caller callers)
    ∙ ap (λ (blocks : Blocks). going_on (record (view_machine old here) { callers = callers_of mid.callers }) (with_memory blocks world) (resumed (given_back value) (view_work caller.work))
    (view_purpose (view_site caller.site) caller.purpose)) (sym died)
    ∙ going_on_is (record (view_machine old here) { callers = callers_of mid.callers }) (resumed (given_back value) (view_work caller.work)) (view_purpose (view_site caller.site) caller.purpose) killed world
    ∙ ap (λ (frame : Frame). at_control (record (view_machine old world) { callers = callers_of mid.callers; statics = frame })
    (with_memory (going_next (resumed (given_back value) (view_work caller.work)) (view_purpose (view_site caller.site) caller.purpose) killed).blocks world)
    (going_next (resumed (given_back value) (view_work caller.work)) (view_purpose (view_site caller.site) caller.purpose) killed).control) (sym statics)
    ∙ ap (λ (numbers : List ℕ). at_control (record (view_machine old world) { callers = callers_of mid.callers; statics = mid.statics; order = numbers })
    (with_memory (going_next (resumed (given_back value) (view_work caller.work)) (view_purpose (view_site caller.site) caller.purpose) killed).blocks world)
    (going_next (resumed (given_back value) (view_work caller.work)) (view_purpose (view_site caller.site) caller.purpose) killed).control) (sym order))
