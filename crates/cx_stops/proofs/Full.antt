-- A run under a trail over a store without a limit never wants for store (ISO C99, 5.1.2.3 and 6.2.4): no object goes past a limit that isn't
-- there.
use Rattle.std.proofs.Common.{◌≡◌, refl, sym, subst, ℕ, zero, suc, ℤ, Bool, true, false, if◌then◌else◌, List, [], ◌∷◌, Option, Some, None, Result, Ok, Err}
use Rattle.cr_base.specs.declared.refusal.Place.{Place}
use Rattle.cr_base.specs.declared.scalar.Scalar.{Scalar}
use Rattle.cr_world.specs.Known.{KnownFunction, known_named, Effect, gives, gives_nothing, ends_program, wants_block, fails, effect}
use Rattle.cr_world.specs.World.{trail_of, wrong, full, asks, astray, World, Got, blocks_of, with_memory, answer_at_end, answer_from, is_of_store, after_allocation, granted_on, limit_of, object_begun, begun_at}
use Rattle.cx_core.specs.Linked.{main_of}
use Rattle.cx_core.specs.Trees.{unqualified, CObject, CFun, COuter}
use Rattle.cx_mean.specs.Accesses.{CStored, stored}
use Rattle.cx_mean.specs.Marks.{no_marks}
use Rattle.cx_mean.specs.Calls.{CCallee, defined, external, CCalled, returns_value, ends_with, COutcome, wrong_at, with_answer, with_block, by_effect, call_by_table}
use Rattle.cx_mean.specs.Moves.{CPurpose, puts_it, drops_it, turns_on, gives_it, chooses_by, CBeginning, CMove, values, reaches, begins, leaves, calls_main, goes_nowhere, CStand, CPutting}
use Rattle.cx_mean.specs.Operands.{CWhy, breaks, stuck, CStop, CValue, designates, COperand, Frame}
use Rattle.cx_mean.specs.Paths.{CSite}
use Rattle.cx_mean.specs.Run.{c_start, c_after, progress_at, progress_of_stop}
use Rattle.cx_mean.specs.Settings.{CSetting, setting_of}
use Rattle.cx_mean.specs.State.{CCaller, CControl, begins_static, moves, evaluates, uses, takes, has_ended, has_stopped, CState, evaluating, control_of, ended_by, at_stand, finished_for, going_on, taking, calling, answered_by, returned_to, after_return, after_step, after_store, after_give, after_choice, use_step, as_stop, object_begins, after_begin, argument_stored, param_begins, after_param, take_step, CShape, shape_of, statics_in, beginning_statics, after_static, main_called, move_step, step_of}
use Rattle.cx_mean.specs.Steps.{did, asks_call, CStepped, picked}
use Rattle.cx_mean.specs.Work.{CWork, finished, needs, chooses, tests, carries, updates, fills, waits, begun, ready}
use Rattle.ext_calls.specs.declared.call.Call.{Call}
use Rattle.mem_bytes.specs.Access.{and_then}
use Rattle.mem_bytes.specs.Counted.{after_alloc}
use Rattle.mem_bytes.specs.declared.value.Ptr.{Ptr}
use Rattle.mem_bytes.specs.declared.value.Value.TheVariants.{Object as Pointer}
use Rattle.cx_stops.specs.Full.{NeverFull, UnlimitedRunsAreNeverFull}

-- ---- states of such a run

-- a run has stopped for something else than want of store
abbrev IsOther : CStop → Type 0
IsOther (full need left) = ⊥
IsOther (wrong fault) = Unit {0}
IsOther (asks call) = Unit {0}
IsOther astray = Unit {0}

-- a run hasn't stopped for want of store, wherever it is
abbrev HasRoom : CControl → Type 0
HasRoom (has_stopped stop) = IsOther stop
HasRoom (has_ended status) = Unit {0}
HasRoom (begins_static one others) = Unit {0}
HasRoom (moves move) = Unit {0}
HasRoom (evaluates work purpose) = Unit {0}
HasRoom (uses operand purpose) = Unit {0}
HasRoom (takes one) = Unit {0}

-- a state of a run under a trail over a store without a limit
record IsUnlimited (state : CState) : Type 0 where
  terms : state.world.terms ≡ trail_of None
  room : HasRoom state.control

-- ---- what is next

evaluating_has_room : (work : CWork) (purpose : CPurpose) → HasRoom (evaluating work purpose)
evaluating_has_room (finished operand) purpose = tt
evaluating_has_room (needs own operands) purpose = tt
evaluating_has_room (chooses own first) purpose = tt
evaluating_has_room (tests own marks second) purpose = tt
evaluating_has_room (carries own marks part) purpose = tt
evaluating_has_room (updates own update stage marks) purpose = tt
evaluating_has_room (fills own marks one others value) purpose = tt
evaluating_has_room (waits own marks) purpose = tt

control_has_room : (move : CMove) → HasRoom (control_of move)
control_has_room (values value purpose) = evaluating_has_room (begun value) purpose
control_has_room (reaches one site) = tt
control_has_room (begins one) = tt
control_has_room (leaves value site) = tt
control_has_room calls_main = tt
control_has_room (goes_nowhere place) = tt

stand_unlimited : (state : CState) (world : World) (one : CStand) → world.terms ≡ trail_of None → IsUnlimited (at_stand state world one)
stand_unlimited state world one terms = record { terms = terms; room = control_has_room one.move }

finished_unlimited : (state : CState) (world : World) (operand : COperand) (purpose : CPurpose) → world.terms ≡ trail_of None → IsUnlimited (finished_for state world operand purpose)
finished_unlimited state world operand (puts_it place one) terms = record { terms = terms; room = tt }
finished_unlimited state world operand (drops_it site) terms = stand_unlimited state world _ terms
finished_unlimited state world operand (turns_on site) terms = stand_unlimited state world _ terms
finished_unlimited state world operand (gives_it place site) terms = record { terms = terms; room = tt }
finished_unlimited state world operand (chooses_by place site) terms = record { terms = terms; room = tt }

going_unlimited : (state : CState) (world : World) (work : CWork) (purpose : CPurpose) → world.terms ≡ trail_of None → IsUnlimited (going_on state world work purpose)
going_unlimited state world (finished operand) purpose terms = finished_unlimited state world operand purpose terms
going_unlimited state world (needs own operands) purpose terms = record { terms = terms; room = tt }
going_unlimited state world (chooses own first) purpose terms = record { terms = terms; room = tt }
going_unlimited state world (tests own marks second) purpose terms = record { terms = terms; room = tt }
going_unlimited state world (carries own marks part) purpose terms = record { terms = terms; room = tt }
going_unlimited state world (updates own update stage marks) purpose terms = record { terms = terms; room = tt }
going_unlimited state world (fills own marks one others value) purpose terms = record { terms = terms; room = tt }
going_unlimited state world (waits own marks) purpose terms = record { terms = terms; room = tt }

-- ---- calls

abbrev Answers : COutcome → Type 0
Answers (Ok (returns_value value world)) = world.terms ≡ trail_of None
Answers (Ok (ends_with status world)) = world.terms ≡ trail_of None
Answers (Err stop) = IsOther stop

abbrev Gets : {A : Type 0} → Result (Got A) CStop → Type 0
Gets (Ok got) = got.world.terms ≡ trail_of None
Gets (Err stop) = IsOther stop

answer_gets : (answers : List ℤ) (call : Call) (world : World) → world.terms ≡ trail_of None → Gets (answer_from answers call world)
answer_gets [] call world terms = subst (λ t. Gets (answer_at_end t call world)) (sym terms) tt
answer_gets (answer ∷ left) call world terms = terms

with_answer_gets : (kind : Option Scalar) (outcome : Result (Got ℤ) CStop) → Gets outcome → Answers (with_answer kind outcome)
with_answer_gets kind (Ok got) is = is
with_answer_gets kind (Err stop) is = is

-- an answer that isn't the store's stops the run
by_store_gets : (matches is_zero : Bool) (size : ℕ) (left : List ℤ) (world : World) → world.terms ≡ trail_of None
    → Answers (with_block (if matches then after_allocation true is_zero size left world else Err astray))
by_store_gets true is_zero size left world terms = terms
by_store_gets false is_zero size left world terms = tt

-- a store without a limit refuses no block
granted_gets : (answers : List ℤ) (is_zero : Bool) (size : ℕ) (world : World) → world.terms ≡ trail_of None → Answers (with_block (granted_on (trail_of None) answers is_zero size world))
granted_gets [] is_zero size world terms = tt
granted_gets (answer ∷ left) is_zero size world terms = by_store_gets (is_of_store false answer) is_zero size left world terms

effect_gets : (place : Place) (world : World) (one : Effect) → world.terms ≡ trail_of None → Answers (by_effect place world one)
effect_gets place world (gives value held) terms = terms
effect_gets place world (gives_nothing held) terms = terms
effect_gets place world (ends_program status) terms = terms
effect_gets place world (wants_block is_zero size) terms =
    subst (λ t. Answers (with_block (granted_on t world.answers is_zero size world))) (sym terms) (granted_gets world.answers is_zero size world terms)
effect_gets place world (fails fault) terms = tt

behind_args : {A : Type 0} (place : Place) (outcome : Result A CWhy) (next : A → COutcome) → ((value : A) → Answers (next value)) → Answers (and_then (wrong_at place outcome) next)
behind_args place (Ok value) next all = all value
behind_args place (Err why) next all = tt

external_unlimited : (setting : CSetting) (one : CCalled) (callee : COuter) (world : World) (known : Option KnownFunction) → world.terms ≡ trail_of None → Answers (call_by_table setting one callee world known)
external_unlimited setting one callee world (Some known) terms = behind_args one.place _ _ (λ args. effect_gets one.place world (effect known.does args world.held) terms)
external_unlimited setting one callee world None terms = behind_args one.place _ _ (λ args. with_answer_gets _ _ (answer_gets world.answers _ world terms))

answered_unlimited : (state : CState) (work : CWork) (purpose : CPurpose) (outcome : COutcome) → state.world.terms ≡ trail_of None → Answers outcome → IsUnlimited (answered_by state work purpose outcome)
answered_unlimited state work purpose (Ok (returns_value value world)) terms is = going_unlimited state world _ purpose is
answered_unlimited state work purpose (Ok (ends_with status world)) terms is = record { terms = is; room = tt }
answered_unlimited state work purpose (Err stop) terms is = record { terms = terms; room = is }

taking_has_room : (one : CFun) (params : List ℕ) (args : List CValue) (frame : Frame) → HasRoom (taking one params args frame)
taking_has_room one [] args frame = tt
taking_has_room one (first ∷ others) args frame = tt

calling_unlimited : (setting : CSetting) (state : CState) (work : CWork) (purpose : CPurpose) (called : CCalled) (callee : CCallee) → state.world.terms ≡ trail_of None → IsUnlimited (calling setting state work purpose called callee)
calling_unlimited setting state work purpose called (defined one) terms = record { terms = terms; room = taking_has_room one one.params _ [] }
calling_unlimited setting state work purpose called (external one) terms = answered_unlimited state work purpose _ terms (external_unlimited setting called one state.world (known_named one.name) terms)

-- ---- returns

ended_unlimited : (state : CState) (world : World) (outcome : Result ℤ CWhy) → world.terms ≡ trail_of None → IsUnlimited (ended_by state world outcome)
ended_unlimited state world (Ok status) terms = record { terms = terms; room = tt }
ended_unlimited state world (Err why) terms = record { terms = terms; room = tt }

returned_unlimited : (state : CState) (world : World) (value : CValue) (callers : List CCaller) → world.terms ≡ trail_of None → IsUnlimited (returned_to state world value callers)
returned_unlimited state world value [] terms = ended_unlimited state world _ terms
returned_unlimited state world value (caller ∷ others) terms = going_unlimited (record state { callers = others }) world _ caller.purpose terms

-- ---- steps

stepped_unlimited : (setting : CSetting) (state : CState) (purpose : CPurpose) (stepped : CStepped) → state.world.terms ≡ trail_of None → IsUnlimited (after_step setting state purpose stepped)
stepped_unlimited setting state purpose (Ok (did work blocks)) terms = going_unlimited state (with_memory blocks state.world) work purpose terms
stepped_unlimited setting state purpose (Ok (asks_call called work)) terms = calling_unlimited setting state work purpose called called.callee terms
stepped_unlimited setting state purpose (Err fault) terms = record { terms = terms; room = tt }

store_unlimited : (state : CState) (place : Place) (one : CPutting) (outcome : Result CStored CWhy) → state.world.terms ≡ trail_of None → IsUnlimited (after_store state place one outcome)
store_unlimited state place one (Ok done) terms = stand_unlimited state state.world _ terms
store_unlimited state place one (Err why) terms = record { terms = terms; room = tt }

give_unlimited : (state : CState) (place : Place) (site : CSite) (outcome : Result CValue CWhy) → state.world.terms ≡ trail_of None → IsUnlimited (after_give state place site outcome)
give_unlimited state place site (Ok value) terms = returned_unlimited state (after_return site state.world) _ state.callers terms
give_unlimited state place site (Err why) terms = record { terms = terms; room = tt }

choice_unlimited : (state : CState) (place : Place) (outcome : Result CStand CWhy) → state.world.terms ≡ trail_of None → IsUnlimited (after_choice state place outcome)
choice_unlimited state place (Ok one) terms = stand_unlimited state state.world one terms
choice_unlimited state place (Err why) terms = record { terms = terms; room = tt }

use_unlimited : (setting : CSetting) (state : CState) (operand : COperand) (purpose : CPurpose) → state.world.terms ≡ trail_of None → IsUnlimited (use_step setting state operand purpose)
use_unlimited setting state operand (puts_it place one) terms = store_unlimited state place one _ terms
use_unlimited setting state operand (drops_it site) terms = finished_unlimited state state.world operand (drops_it site) terms
use_unlimited setting state operand (turns_on site) terms = finished_unlimited state state.world operand (turns_on site) terms
use_unlimited setting state operand (gives_it place site) terms = give_unlimited state place site _ terms
use_unlimited setting state operand (chooses_by place site) terms = choice_unlimited state place _ terms

-- ---- lives

begun_gets : (is_zero : Bool) (size align : ℕ) (world : World) → world.terms ≡ trail_of None → Gets (object_begun is_zero size align world)
begun_gets is_zero size align world terms =
    subst (λ t. Gets (begun_at is_zero size align world (after_alloc (limit_of t) (blocks_of world) size align))) (sym terms) terms

got_behind : {A B : Type 0} (first : Result (Got A) CStop) (next : Got A → Result (Got B) CStop) → Gets first → ((got : Got A) → got.world.terms ≡ trail_of None → Gets (next got)) → Gets (and_then first next)
got_behind (Ok got) next is all = all got is
got_behind (Err stop) next is all = is

stop_behind : {A B : Type 0} (place : Place) (first : Result A CWhy) (next : A → Result (Got B) CStop) → ((value : A) → Gets (next value)) → Gets (and_then (as_stop place first) next)
stop_behind place (Ok value) next all = all value
stop_behind place (Err why) next all = tt

object_gets : (setting : CSetting) (place : Place) (number : ℕ) (world : World) → world.terms ≡ trail_of None → Gets (object_begins setting place number world)
object_gets setting place number world terms = stop_behind place _ _ (λ shape. begun_gets false shape.laid.size shape.laid.align world terms)

begin_unlimited : (setting : CSetting) (state : CState) (one : CBeginning) (outcome : Result (Got Ptr) CStop) → state.world.terms ≡ trail_of None → Gets outcome → IsUnlimited (after_begin setting state one outcome)
begin_unlimited setting state one (Ok got) terms is = stand_unlimited state got.world _ is
begin_unlimited setting state one (Err stop) terms is = record { terms = terms; room = is }

abbrev store_of : CSetting → CValue → Got Ptr → CShape → Result CStored CWhy
store_of setting value got shape = stored setting [] (blocks_of got.world) (unqualified shape.type) (designates (Pointer got.value)) value no_marks

abbrev got_with : Got Ptr → CStored → Result (Got Ptr) CStop
got_with got one = Ok (record { value = got.value; world = with_memory one.blocks got.world })

argument_gets : (setting : CSetting) (place : Place) (number : ℕ) (value : CValue) (got : Got Ptr) → got.world.terms ≡ trail_of None → Gets (argument_stored setting place number value got)
argument_gets setting place number value got is =
    stop_behind place (shape_of setting number) (λ shape. and_then (as_stop place (store_of setting value got shape)) (got_with got))
    (λ shape. stop_behind place (store_of setting value got shape) (got_with got) (λ one. is))

param_gets : (setting : CSetting) (place : Place) (number : ℕ) (value : CValue) (world : World) → world.terms ≡ trail_of None → Gets (param_begins setting place number value world)
param_gets setting place number value world terms =
    got_behind (object_begins setting place number world) (argument_stored setting place number value) (object_gets setting place number world terms)
    (argument_gets setting place number value)

param_unlimited : (state : CState) (callee : CFun) (number : ℕ) (params : List ℕ) (args : List CValue) (frame : Frame) (outcome : Result (Got Ptr) CStop) → state.world.terms ≡ trail_of None → Gets outcome → IsUnlimited (after_param state callee number params args frame outcome)
param_unlimited state callee number params args frame (Ok got) terms is = record { terms = is; room = taking_has_room callee params args _ }
param_unlimited state callee number params args frame (Err stop) terms is = record { terms = terms; room = is }

take_unlimited : (setting : CSetting) (state : CState) (callee : CFun) (params : List ℕ) (args : List CValue) (frame : Frame) → state.world.terms ≡ trail_of None → IsUnlimited (take_step setting state callee params args frame)
take_unlimited setting state callee (number ∷ params) (value ∷ args) frame terms = param_unlimited state callee number params args frame _ terms (param_gets setting _ number value state.world terms)
take_unlimited setting state callee (number ∷ params) [] frame terms = record { terms = terms; room = tt }
take_unlimited setting state callee [] [] frame terms = record { terms = terms; room = tt }
take_unlimited setting state callee [] (value ∷ args) frame terms = record { terms = terms; room = tt }

statics_has_room : (left all : List CObject) → HasRoom (beginning_statics left all)
statics_has_room [] all = control_has_room _
statics_has_room (one ∷ others) all = tt

static_unlimited : (setting : CSetting) (state : CState) (one : CObject) (others : List CObject) (outcome : Result (Got Ptr) CStop) → state.world.terms ≡ trail_of None → Gets outcome → IsUnlimited (after_static setting state one others outcome)
static_unlimited setting state one others (Ok got) terms is = record { terms = is; room = statics_has_room others _ }
static_unlimited setting state one others (Err stop) terms is = record { terms = terms; room = is }

main_has_room : (found : Option CFun) → HasRoom (main_called found)
main_has_room None = tt
main_has_room (Some one) = taking_has_room one one.params [] []

move_unlimited : (setting : CSetting) (state : CState) (move : CMove) → state.world.terms ≡ trail_of None → IsUnlimited (move_step setting state move)
move_unlimited setting state (values value purpose) terms = record { terms = terms; room = evaluating_has_room (begun value) purpose }
move_unlimited setting state (reaches one site) terms = stand_unlimited state state.world _ terms
move_unlimited setting state (begins one) terms = begin_unlimited setting state one _ terms (object_gets setting _ one.object state.world terms)
move_unlimited setting state (leaves value site) terms = returned_unlimited state (after_return site state.world) _ state.callers terms
move_unlimited setting state calls_main terms = record { terms = terms; room = main_has_room (main_of setting.program) }
move_unlimited setting state (goes_nowhere place) terms = record { terms = terms; room = tt }

step_unlimited : (setting : CSetting) (state : CState) (control : CControl) → IsUnlimited state → IsUnlimited (step_of setting state control)
step_unlimited setting state (begins_static one others) is = static_unlimited setting state one others _ is.terms (stop_behind _ _ _ (λ laid. begun_gets true laid.size laid.align state.world is.terms))
step_unlimited setting state (moves move) is = move_unlimited setting state move is.terms
step_unlimited setting state (evaluates work purpose) is = stepped_unlimited setting (record state { order = (picked state.order (ready work)).order }) purpose _ is.terms
step_unlimited setting state (uses operand purpose) is = use_unlimited setting state operand purpose is.terms
step_unlimited setting state (takes one) is = take_unlimited setting state one.callee one.params one.args one.frame is.terms
step_unlimited setting state (has_ended status) is = is
step_unlimited setting state (has_stopped stop) is = is

after_unlimited : (setting : CSetting) (steps : ℕ) (state : CState) → IsUnlimited state → IsUnlimited (c_after setting steps state)
after_unlimited setting zero state is = is
after_unlimited setting (suc steps) state is = step_unlimited setting (c_after setting steps state) (c_after setting steps state).control (after_unlimited setting steps state is)

-- ---- runs

other_stop : (stop : CStop) → IsOther stop → NeverFull (progress_of_stop stop)
other_stop (wrong fault) other = by fault.why
  where
    by : (why : CWhy) → NeverFull (progress_of_stop (wrong (record { why = why; place = fault.place })))
    by (breaks rule) = tt
    by stuck = tt
other_stop (full need left) other = absurd other
other_stop (asks call) other = tt
other_stop astray other = tt

never_full : (control : CControl) → HasRoom control → NeverFull (progress_at control)
never_full (begins_static one others) room = tt
never_full (moves move) room = tt
never_full (evaluates work purpose) room = tt
never_full (uses operand purpose) room = tt
never_full (takes one) room = tt
never_full (has_ended status) room = tt
never_full (has_stopped stop) room = other_stop stop room

pub unlimited_runs_are_never_full : UnlimitedRunsAreNeverFull
unlimited_runs_are_never_full program order outside steps =
    let start = c_start program order (trail_of None) outside in
    let after = after_unlimited (setting_of program) steps start (record { terms = refl; room = statics_has_room (statics_in program.objects) (statics_in program.objects) }) in
    never_full (c_after (setting_of program) steps start).control after.room
