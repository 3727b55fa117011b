-- A run under a trail is the run to which the outside gives the answers of the trail.
use Rattle.std.proofs.Common.{◌≡◌, ℕ, zero, suc, ℤ, pos, Bool, true, false, not, if◌then◌else◌, true≢false, List, [], ◌∷◌, Option, Some, None, Result, Ok, Err, refl, sym, ap, subst, ◌∙◌}
use Rattle.cr_base.specs.declared.refusal.Place.{Place}
use Rattle.cr_base.specs.declared.scalar.Scalar.{Scalar}
use Rattle.cr_world.specs.Known.{Known, Effect, gives, gives_nothing, ends_program, wants_block, fails, effect, KnownFunction, known_named}
use Rattle.cr_world.specs.World.{World, Got, Terms, open_ended, trail_of, wrong, full, asks, astray, blocks_of, with_memory, answered, answer_from, granted, granted_on, after_allocation, object_begun, begun_at, limit_of, is_refused_by, is_of_store, is_given}
use Rattle.cx_core.specs.Trees.{unqualified, CFun, COuter, CObject}
use Rattle.cx_mean.specs.Accesses.{CStored, stored}
use Rattle.cx_mean.specs.Calls.{CCallee, defined, external, CCalled, returns_value, ends_with, COutcome, external_call, call_by_table, by_effect, with_block, with_answer, wrong_at, values_of, arguments}
use Rattle.cx_mean.specs.Laws.{IsEnd, IsOfTrail, TrailIsOutside}
use Rattle.cx_mean.specs.Marks.{no_marks}
use Rattle.cx_mean.specs.Moves.{CPurpose, puts_it, drops_it, turns_on, gives_it, chooses_by, CMove, begins, leaves, CPutting, CBeginning, CStand}
use Rattle.cx_mean.specs.Operands.{CWhy, CStop, CValue, COperand, Frame, needed, designates}
use Rattle.cx_mean.specs.Paths.{CSite}
use Rattle.cx_mean.specs.Run.{CProgress, going, ended, undefined, is_stuck, is_full, asks_for, is_astray, seen_at, progress_at, c_start, c_after}
use Rattle.cx_mean.specs.Settings.{CSetting, setting_of, scalar_in_type, extent_in}
use Rattle.cx_mean.specs.State.{CCaller, CControl, begins_static, moves, evaluates, uses, takes, has_ended, has_stopped, CState, going_on, calling, answered_by, returned_to, ended_by, after_return, after_step, after_store, after_give, after_choice, after_begin, after_param, after_static, take_step, use_step, move_step, step_of, c_step, status_in, given_back, object_begins, param_begins, argument_stored, static_begins, shape_of, as_stop, no_place, place_of_body}
use Rattle.cx_mean.specs.Steps.{picked, did, asks_call, CStepped}
use Rattle.cx_mean.specs.Work.{CWork, finished, resumed, ready}
use Rattle.ext_calls.specs.declared.call.Arg.{Arg}
use Rattle.ext_calls.specs.declared.call.Call.{Call}
use Rattle.mem_bytes.specs.Access.{and_then}
use Rattle.mem_bytes.specs.Counted.{after_alloc, with_new_block}
use Rattle.mem_bytes.specs.declared.fault.StoreFault.{StoreFault}
use Rattle.mem_bytes.specs.declared.fault.StoreFault.TheVariants.{Full, Memory}
use Rattle.mem_bytes.specs.declared.value.Ptr.{Ptr}
use Rattle.mem_bytes.specs.declared.value.Value.{Value}
use Rattle.mem_bytes.specs.declared.value.Value.TheVariants.{Object as Pointer}
use Rattle.mem_bytes.specs.Memory.{Blocks}
use Rattle.cx_mean.proofs.Ended.{step_stays}

-- the same world, and state, on open terms
abbrev opened : World → World
opened world = record world { terms = open_ended }

abbrev opened_state : CState → CState
opened_state state = record state { world = opened state.world }

-- ---- what calls and lives give on open terms, where they aren't stopped by the trail

abbrev OpensStop : {A : Type 0} → CStop → Result A CStop → Type 0
OpensStop (wrong fault) other = other ≡ Err (wrong fault)
OpensStop (full need left) other = Unit {0}
OpensStop (asks call) other = Unit {0}
OpensStop astray other = Unit {0}

abbrev Opens : COutcome → COutcome → Type 0
Opens (Ok (returns_value value after)) other = other ≡ Ok (returns_value value (opened after))
Opens (Ok (ends_with status after)) other = other ≡ Ok (ends_with status (opened after))
Opens (Err stop) other = OpensStop stop other

abbrev OpensGot : {A : Type 0} → Result (Got A) CStop → Result (Got A) CStop → Type 0
OpensGot (Ok got) other = other ≡ Ok (record { value = got.value; world = opened got.world })
OpensGot (Err stop) other = OpensStop stop other

same_stop : (A : Type 0) (stop : CStop) → OpensStop {A = A} stop (Err stop)
same_stop A (wrong fault) = refl
same_stop A (full need left) = tt
same_stop A (asks call) = tt
same_stop A astray = tt

-- the answer in a trail that the store gives is null just where the store refuses
is_null : (refused : Bool) (answer : ℤ) → is_of_store refused answer ≡ true → is_given answer ≡ not refused
is_null true (pos zero) is = refl
is_null false (pos (suc zero)) is = refl
is_null refused answer is = absurd (true≢false (sym is))

store_opens : (equal : Bool) (refused : Bool) (answer : ℤ) → is_of_store refused answer ≡ equal →
    (is_zero : Bool) (size : ℕ) (left : List ℤ) (world : World) →
    OpensGot (if equal then after_allocation (not refused) is_zero size left world else Err astray)
    (after_allocation (is_given answer) is_zero size left (opened world))
store_opens true refused answer is is_zero size left world =
    ap (λ (given : Bool). after_allocation given is_zero size left (opened world)) (is_null refused answer is)
store_opens false refused answer is is_zero size left world = tt

granted_opens : (terms : Terms) (answers : List ℤ) (is_zero : Bool) (size : ℕ) (world : World) →
    OpensGot (granted_on terms answers is_zero size world) (granted_on open_ended answers is_zero size (opened world))
granted_opens open_ended [] is_zero size world = refl
granted_opens open_ended (answer ∷ left) is_zero size world = refl
granted_opens (trail_of limit) [] is_zero size world = tt
granted_opens (trail_of limit) (answer ∷ left) is_zero size world =
    store_opens (is_of_store (is_refused_by limit world.held.blocks size) answer) (is_refused_by limit world.held.blocks size) answer refl is_zero size left world

answer_opens : (answers : List ℤ) (terms : Terms) (call : Call) (world : World) → world.terms ≡ terms →
    OpensGot (answer_from answers call world) (answer_from answers call (opened world))
answer_opens (answer ∷ left) terms call world is = refl
answer_opens [] open_ended call world is = rw is refl
answer_opens [] (trail_of limit) call world is = rw is tt

begun_opens : (is_zero : Bool) (size align : ℕ) (world : World) (outcome : Result Blocks StoreFault) (made : Blocks) →
    OpensGot (begun_at is_zero size align world outcome) (begun_at is_zero size align (opened world) (Ok made))
begun_opens is_zero size align world (Ok blocks) made = refl
begun_opens is_zero size align world (Err (Full need left)) made = tt
begun_opens is_zero size align world (Err Memory) made = tt

object_opens : (is_zero : Bool) (size align : ℕ) (world : World) → OpensGot (object_begun is_zero size align world) (object_begun is_zero size align (opened world))
object_opens is_zero size align world =
    begun_opens is_zero size align world (after_alloc (limit_of world.terms) world.held.blocks size align) (with_new_block world.held.blocks size align)

answer_outcome : (kind : Option Scalar) (outcome other : Result (Got ℤ) CStop) → OpensGot outcome other → Opens (with_answer kind outcome) (with_answer kind other)
answer_outcome kind (Ok got) other opens = ap (λ (one : Result (Got ℤ) CStop). with_answer kind one) opens
answer_outcome kind (Err (wrong fault)) other opens = ap (λ (one : Result (Got ℤ) CStop). with_answer kind one) opens
answer_outcome kind (Err (full need left)) other opens = tt
answer_outcome kind (Err (asks call)) other opens = tt
answer_outcome kind (Err astray) other opens = tt

block_outcome : (outcome other : Result (Got Value) CStop) → OpensGot outcome other → Opens (with_block outcome) (with_block other)
block_outcome (Ok got) other opens = ap with_block opens
block_outcome (Err (wrong fault)) other opens = ap with_block opens
block_outcome (Err (full need left)) other opens = tt
block_outcome (Err (asks call)) other opens = tt
block_outcome (Err astray) other opens = tt

effect_opens : (place : Place) (world : World) (one : Effect) → Opens (by_effect place world one) (by_effect place (opened world) one)
effect_opens place world (gives value held) = refl
effect_opens place world (gives_nothing held) = refl
effect_opens place world (ends_program status) = refl
effect_opens place world (wants_block is_zero size) =
    block_outcome (granted is_zero size world) (granted is_zero size (opened world)) (granted_opens world.terms world.answers is_zero size world)
effect_opens place world (fails fault) = refl

known_opens : (one : CCalled) (does : Known) (world : World) (args : Result (List Value) CStop) →
    Opens (and_then args (λ args. by_effect one.place world (effect does args world.held))) (and_then args (λ args. by_effect one.place (opened world) (effect does args world.held)))
known_opens one does world (Ok args) = effect_opens one.place world (effect does args world.held)
known_opens one does world (Err stop) = same_stop _ stop

opaque_opens : (setting : CSetting) (one : CCalled) (callee : COuter) (world : World) (args : Result (List Arg) CStop) →
    Opens (and_then args (λ args. with_answer (scalar_in_type setting one.type) (answered (record { name = callee.name; args = args }) world)))
    (and_then args (λ args. with_answer (scalar_in_type setting one.type) (answered (record { name = callee.name; args = args }) (opened world))))
opaque_opens setting one callee world (Ok args) =
    answer_outcome (scalar_in_type setting one.type) _ _ (answer_opens world.answers world.terms (record { name = callee.name; args = args }) world refl)
opaque_opens setting one callee world (Err stop) = same_stop _ stop

table_opens : (setting : CSetting) (one : CCalled) (callee : COuter) (world : World) (known : Option KnownFunction) →
    Opens (call_by_table setting one callee world known) (call_by_table setting one callee (opened world) known)
table_opens setting one callee world (Some known) = known_opens one known.does world (wrong_at one.place (values_of one.args))
table_opens setting one callee world None = opaque_opens setting one callee world (wrong_at one.place (arguments setting (blocks_of world) one.args))

-- ---- steps

-- a step on open terms leaves the same, unless it is stopped by the trail
abbrev NotOfTrail : CState → Type 0
NotOfTrail state = ¬ IsOfTrail (progress_at state.control)

going_opens : (state : CState) (world : World) (work : CWork) (purpose : CPurpose) →
    going_on (opened_state state) (opened world) work purpose ≡ opened_state (going_on state world work purpose)
going_opens state world (finished operand) (drops_it site) = refl
going_opens state world (finished operand) (turns_on site) = refl
going_opens state world (finished operand) purpose = refl
going_opens state world work purpose = refl

ended_opens : (state : CState) (world : World) (status : Result ℤ CWhy) → ended_by (opened_state state) (opened world) status ≡ opened_state (ended_by state world status)
ended_opens state world (Ok status) = refl
ended_opens state world (Err why) = refl

returned_opens : (state : CState) (world : World) (value : CValue) (callers : List CCaller) →
    returned_to (opened_state state) (opened world) value callers ≡ opened_state (returned_to state world value callers)
returned_opens state world value [] = ended_opens state world (status_in value)
returned_opens state world value (caller ∷ others) = going_opens (record state { callers = others }) world (resumed value caller.work) caller.purpose

answered_opens : (state : CState) (work : CWork) (purpose : CPurpose) (outcome other : COutcome) → Opens outcome other → NotOfTrail (answered_by state work purpose outcome) →
    answered_by (opened_state state) work purpose other ≡ opened_state (answered_by state work purpose outcome)
answered_opens state work purpose (Ok (returns_value value world)) other opens no_trail =
    ap (λ (one : COutcome). answered_by (opened_state state) work purpose one) opens ∙ going_opens state world (resumed value work) purpose
answered_opens state work purpose (Ok (ends_with status world)) other opens no_trail =
    ap (λ (one : COutcome). answered_by (opened_state state) work purpose one) opens
answered_opens state work purpose (Err (wrong fault)) other opens no_trail =
    ap (λ (one : COutcome). answered_by (opened_state state) work purpose one) opens
answered_opens state work purpose (Err (full need left)) other opens no_trail = absurd (no_trail tt)
answered_opens state work purpose (Err (asks call)) other opens no_trail = absurd (no_trail tt)
answered_opens state work purpose (Err astray) other opens no_trail = absurd (no_trail tt)

calling_opens : (setting : CSetting) (state : CState) (work : CWork) (purpose : CPurpose) (called : CCalled) (callee : CCallee) →
    NotOfTrail (calling setting state work purpose called callee) →
    calling setting (opened_state state) work purpose called callee ≡ opened_state (calling setting state work purpose called callee)
calling_opens setting state work purpose called (defined one) no_trail = refl
calling_opens setting state work purpose called (external one) no_trail =
    answered_opens state work purpose (external_call setting called one state.world) (external_call setting called one (opened state.world))
    (table_opens setting called one state.world (known_named one.name)) no_trail

stepped_opens : (setting : CSetting) (state : CState) (purpose : CPurpose) (outcome : CStepped) → NotOfTrail (after_step setting state purpose outcome) →
    after_step setting (opened_state state) purpose outcome ≡ opened_state (after_step setting state purpose outcome)
stepped_opens setting state purpose (Ok (did work blocks)) no_trail = going_opens state (with_memory blocks state.world) work purpose
stepped_opens setting state purpose (Ok (asks_call called work)) no_trail = calling_opens setting state work purpose called called.callee no_trail
stepped_opens setting state purpose (Err fault) no_trail = refl

stored_opens : (state : CState) (place : Place) (one : CPutting) (outcome : Result CStored CWhy) →
    after_store (opened_state state) place one outcome ≡ opened_state (after_store state place one outcome)
stored_opens state place one (Ok done) = refl
stored_opens state place one (Err why) = refl

given_opens : (state : CState) (place : Place) (site : CSite) (outcome : Result CValue CWhy) →
    after_give (opened_state state) place site outcome ≡ opened_state (after_give state place site outcome)
given_opens state place site (Ok value) = returned_opens state (after_return site state.world) (given_back value) state.callers
given_opens state place site (Err why) = refl

choice_opens : (state : CState) (place : Place) (outcome : Result CStand CWhy) →
    after_choice (opened_state state) place outcome ≡ opened_state (after_choice state place outcome)
choice_opens state place (Ok one) = refl
choice_opens state place (Err why) = refl

use_opens : (setting : CSetting) (state : CState) (operand : COperand) (purpose : CPurpose) →
    use_step setting (opened_state state) operand purpose ≡ opened_state (use_step setting state operand purpose)
use_opens setting state operand (puts_it place one) = stored_opens state place one _
use_opens setting state operand (drops_it site) = refl
use_opens setting state operand (turns_on site) = refl
use_opens setting state operand (gives_it place site) = given_opens state place site _
use_opens setting state operand (chooses_by place site) = choice_opens state place _

-- ---- lives

shape_opens : {A : Type 0} (found : Result A CStop) (go on : A → Result (Got Ptr) CStop) → ((one : A) → OpensGot (go one) (on one)) →
    OpensGot (and_then found go) (and_then found on)
shape_opens (Ok one) go on opens = opens one
shape_opens (Err stop) go on opens = same_stop _ stop

begins_opens : (setting : CSetting) (place : Place) (number : ℕ) (world : World) →
    OpensGot (object_begins setting place number world) (object_begins setting place number (opened world))
begins_opens setting place number world =
    shape_opens (as_stop place (shape_of setting number)) _ _ (λ shape. object_opens false shape.laid.size shape.laid.align world)

after_begin_opens : (setting : CSetting) (state : CState) (one : CBeginning) (outcome other : Result (Got Ptr) CStop) → OpensGot outcome other →
    NotOfTrail (after_begin setting state one outcome) → after_begin setting (opened_state state) one other ≡ opened_state (after_begin setting state one outcome)
after_begin_opens setting state one (Ok got) other opens no_trail = ap (λ (made : Result (Got Ptr) CStop). after_begin setting (opened_state state) one made) opens
after_begin_opens setting state one (Err (wrong fault)) other opens no_trail = ap (λ (made : Result (Got Ptr) CStop). after_begin setting (opened_state state) one made) opens
after_begin_opens setting state one (Err (full need left)) other opens no_trail = absurd (no_trail tt)
after_begin_opens setting state one (Err (asks call)) other opens no_trail = absurd (no_trail tt)
after_begin_opens setting state one (Err astray) other opens no_trail = absurd (no_trail tt)

after_static_opens : (setting : CSetting) (state : CState) (one : CObject) (others : List CObject) (outcome other : Result (Got Ptr) CStop) → OpensGot outcome other →
    NotOfTrail (after_static setting state one others outcome) → after_static setting (opened_state state) one others other ≡ opened_state (after_static setting state one others outcome)
after_static_opens setting state one others (Ok got) other opens no_trail = ap (λ (made : Result (Got Ptr) CStop). after_static setting (opened_state state) one others made) opens
after_static_opens setting state one others (Err (wrong fault)) other opens no_trail = ap (λ (made : Result (Got Ptr) CStop). after_static setting (opened_state state) one others made) opens
after_static_opens setting state one others (Err (full need left)) other opens no_trail = absurd (no_trail tt)
after_static_opens setting state one others (Err (asks call)) other opens no_trail = absurd (no_trail tt)
after_static_opens setting state one others (Err astray) other opens no_trail = absurd (no_trail tt)

after_param_opens : (state : CState) (callee : CFun) (number : ℕ) (params : List ℕ) (args : List CValue) (frame : Frame) (outcome other : Result (Got Ptr) CStop) → OpensGot outcome other →
    NotOfTrail (after_param state callee number params args frame outcome) →
    after_param (opened_state state) callee number params args frame other ≡ opened_state (after_param state callee number params args frame outcome)
after_param_opens state callee number params args frame (Ok got) other opens no_trail = ap (λ (made : Result (Got Ptr) CStop). after_param (opened_state state) callee number params args frame made) opens
after_param_opens state callee number params args frame (Err (wrong fault)) other opens no_trail = ap (λ (made : Result (Got Ptr) CStop). after_param (opened_state state) callee number params args frame made) opens
after_param_opens state callee number params args frame (Err (full need left)) other opens no_trail = absurd (no_trail tt)
after_param_opens state callee number params args frame (Err (asks call)) other opens no_trail = absurd (no_trail tt)
after_param_opens state callee number params args frame (Err astray) other opens no_trail = absurd (no_trail tt)

-- the argument of a parameter that has begun
argument_opens : (setting : CSetting) (place : Place) (number : ℕ) (value : CValue) (outcome other : Result (Got Ptr) CStop) → OpensGot outcome other →
    OpensGot (and_then outcome (argument_stored setting place number value)) (and_then other (argument_stored setting place number value))
argument_opens setting place number value (Ok got) other opens =
    subst (λ (made : Result (Got Ptr) CStop). OpensGot (argument_stored setting place number value got) (and_then made (argument_stored setting place number value))) (sym opens)
    (shape_opens (as_stop place (shape_of setting number)) _ _ (λ shape.
    shape_opens (as_stop place (stored setting [] (blocks_of got.world) (unqualified shape.type) (designates (Pointer got.value)) value no_marks)) _ _ (λ one. refl)))
argument_opens setting place number value (Err (wrong fault)) other opens =
    ap (λ (made : Result (Got Ptr) CStop). and_then made (argument_stored setting place number value)) opens
argument_opens setting place number value (Err (full need left)) other opens = tt
argument_opens setting place number value (Err (asks call)) other opens = tt
argument_opens setting place number value (Err astray) other opens = tt

take_opens : (setting : CSetting) (state : CState) (callee : CFun) (params : List ℕ) (args : List CValue) (frame : Frame) → NotOfTrail (take_step setting state callee params args frame) →
    take_step setting (opened_state state) callee params args frame ≡ opened_state (take_step setting state callee params args frame)
take_opens setting state callee (number ∷ params) (value ∷ args) frame no_trail =
    after_param_opens state callee number params args frame
    (param_begins setting (place_of_body callee.body) number value state.world) (param_begins setting (place_of_body callee.body) number value (opened state.world))
    (argument_opens setting (place_of_body callee.body) number value _ _ (begins_opens setting (place_of_body callee.body) number state.world)) no_trail
take_opens setting state callee params args frame no_trail = refl

move_opens : (setting : CSetting) (state : CState) (move : CMove) → NotOfTrail (move_step setting state move) →
    move_step setting (opened_state state) move ≡ opened_state (move_step setting state move)
move_opens setting state (begins one) no_trail =
    after_begin_opens setting state one (object_begins setting no_place one.object state.world) (object_begins setting no_place one.object (opened state.world))
    (begins_opens setting no_place one.object state.world) no_trail
move_opens setting state (leaves value site) no_trail = returned_opens state (after_return site state.world) (given_back value) state.callers
move_opens setting state move no_trail = refl

step_opens : (setting : CSetting) (state : CState) (control : CControl) → NotOfTrail (step_of setting state control) →
    step_of setting (opened_state state) control ≡ opened_state (step_of setting state control)
step_opens setting state (begins_static one others) no_trail =
    after_static_opens setting state one others (static_begins setting one state.world) (static_begins setting one (opened state.world))
    (shape_opens (as_stop no_place (needed (extent_in setting one.type))) _ _ (λ laid. object_opens true laid.size laid.align state.world)) no_trail
step_opens setting state (moves move) no_trail = move_opens setting state move no_trail
step_opens setting state (evaluates work purpose) no_trail =
    stepped_opens setting (record state { order = (picked state.order (ready work)).order }) purpose _ no_trail
step_opens setting state (uses operand purpose) no_trail = use_opens setting state operand purpose
step_opens setting state (takes one) no_trail = take_opens setting state one.callee one.params one.args one.frame no_trail
step_opens setting state (has_ended status) no_trail = refl
step_opens setting state (has_stopped stop) no_trail = refl

-- ---- runs

ends_of_trail : (progress : CProgress) → IsOfTrail progress → IsEnd progress
ends_of_trail going of_trail = absurd of_trail
ends_of_trail (ended status) of_trail = absurd of_trail
ends_of_trail (undefined rule unit line) of_trail = absurd of_trail
ends_of_trail (is_stuck unit line) of_trail = absurd of_trail
ends_of_trail (is_full need left) of_trail = tt
ends_of_trail (asks_for call) of_trail = tt
ends_of_trail is_astray of_trail = tt

-- a run that isn't stopped by its trail wasn't before
not_before : (setting : CSetting) (state : CState) → NotOfTrail (c_step setting state) → NotOfTrail state
not_before setting state no_trail of_trail =
    no_trail (subst (λ (one : CState). IsOfTrail (progress_at one.control))
    (sym (step_stays setting state state.control (ends_of_trail (progress_at state.control) of_trail))) of_trail)

after_opens : (setting : CSetting) (steps : ℕ) (state : CState) → NotOfTrail (c_after setting steps state) →
    c_after setting steps (opened_state state) ≡ opened_state (c_after setting steps state)
after_opens setting zero state no_trail = refl
after_opens setting (suc steps) state no_trail =
    ap (λ (one : CState). c_step setting one) (after_opens setting steps state (not_before setting (c_after setting steps state) no_trail))
    ∙ step_opens setting (c_after setting steps state) (c_after setting steps state).control no_trail

pub trail_is_outside : TrailIsOutside
trail_is_outside program order limit outside steps no_trail =
    sym (ap seen_at (after_opens (setting_of program) steps (c_start program order (trail_of limit) outside) no_trail))
