-- A run that isn't one under a trail never wants for store or answers (ISO C99, 5.1.2.3): memory has no limit, and each call is answered.
use Rattle.std.proofs.Common.{◌≡◌, refl, sym, ap, ◌∙◌, subst, ℕ, zero, suc, ℤ, Bool, true, false, List, [], ◌∷◌, ◌++◌, Option, Some, None, Result, Ok, Err}
use Rattle.cr_base.specs.declared.refusal.Place.{Place}
use Rattle.cr_base.specs.declared.scalar.Scalar.{Scalar}
use Rattle.cr_world.specs.Known.{KnownFunction, known_named, Known, Effect, gives, gives_nothing, ends_program, wants_block, fails, effect}
use Rattle.cr_world.specs.World.{Outside, Terms, open_ended, trail_of, Stop, wrong, full, asks, astray, World, Got, blocks_of, with_memory, answer_at_end, answer_from, answered, granted_on, granted, limit_of, object_begun, begun_at}
use Rattle.cx_core.specs.Linked.{main_of}
use Rattle.cx_core.specs.Trees.{CTy, unqualified, CPuts, CObject, CFun, COuter, CProgram, CStmt}
use Rattle.cx_mean.specs.Accesses.{CStored, stored}
use Rattle.cx_mean.specs.Marks.{no_marks}
use Rattle.cx_mean.specs.Calls.{CCallee, defined, external, CCalled, CReturn, returns_value, ends_with, COutcome, wrong_at, with_answer, with_block, opaque_call, by_effect, known_call, call_by_table, external_call}
use Rattle.cx_mean.specs.Moves.{CPurpose, puts_it, drops_it, turns_on, gives_it, chooses_by, CBeginning, CMove, values, reaches, begins, leaves, calls_main, goes_nowhere, CStand, CPutting}
use Rattle.cx_mean.specs.Operands.{CWhy, breaks, stuck, CStop, CValue, designates, COperand, Frame}
use Rattle.cx_mean.specs.Paths.{CSite}
use Rattle.cx_mean.specs.Run.{c_run, c_start, c_after, progress_at, progress_of_stop}
use Rattle.cx_mean.specs.Settings.{CSetting, setting_of}
use Rattle.cx_mean.specs.State.{CCaller, CControl, begins_static, moves, evaluates, uses, takes, has_ended, has_stopped, CState, evaluating, control_of, ended_by, at_stand, finished_for, going_on, taking, calling, answered_by, returned_to, after_return, returning, after_step, expression_step, after_store, after_give, after_choice, use_step, as_stop, object_begins, after_begin, argument_stored, param_begins, after_param, take_step, CShape, shape_of, statics_in, beginning_statics, static_begins, after_static, main_called, move_step, step_of, c_step}
use Rattle.cx_mean.specs.Steps.{did, asks_call, CStepped, picked}
use Rattle.cx_mean.specs.Work.{CWork, finished, needs, chooses, tests, carries, updates, fills, waits, begun, ready}
use Rattle.ext_calls.specs.declared.call.Call.{Call}
use Rattle.mem_bytes.specs.Access.{and_then}
use Rattle.mem_bytes.specs.Counted.{after_alloc}
use Rattle.mem_bytes.specs.declared.value.Ptr.{Ptr}
use Rattle.mem_bytes.specs.declared.value.Value.TheVariants.{Object as Pointer}
use Rattle.cx_typed_runs.specs.Runs.{WantsNothing, OpenRunsWantNothing}

-- ---- states of such a run

-- a run stops by a step alone
abbrev IsOwn : CStop → Type 0
IsOwn (wrong fault) = Unit {0}
IsOwn (full need left) = ⊥
IsOwn (asks call) = ⊥
IsOwn astray = ⊥

abbrev IsFree : CControl → Type 0
IsFree (has_stopped stop) = IsOwn stop
IsFree (has_ended status) = Unit {0}
IsFree (begins_static one others) = Unit {0}
IsFree (moves move) = Unit {0}
IsFree (evaluates work purpose) = Unit {0}
IsFree (uses operand purpose) = Unit {0}
IsFree (takes one) = Unit {0}

record IsOpen (state : CState) : Type 0 where
  terms : state.world.terms ≡ open_ended
  free : IsFree state.control

-- ---- what is next

evaluating_free : (work : CWork) (purpose : CPurpose) → IsFree (evaluating work purpose)
evaluating_free (finished operand) purpose = tt
evaluating_free (needs own operands) purpose = tt
evaluating_free (chooses own first) purpose = tt
evaluating_free (tests own marks second) purpose = tt
evaluating_free (carries own marks part) purpose = tt
evaluating_free (updates own update stage marks) purpose = tt
evaluating_free (fills own marks one others value) purpose = tt
evaluating_free (waits own marks) purpose = tt

control_free : (move : CMove) → IsFree (control_of move)
control_free (values value purpose) = evaluating_free (begun value) purpose
control_free (reaches stmt site) = tt
control_free (begins one) = tt
control_free (leaves value site) = tt
control_free calls_main = tt
control_free (goes_nowhere place) = tt

stand_open : (state : CState) (world : World) (one : CStand) → world.terms ≡ open_ended → IsOpen (at_stand state world one)
stand_open state world one terms = record { terms = terms; free = control_free one.move }

finished_open : (state : CState) (world : World) (operand : COperand) (purpose : CPurpose) → world.terms ≡ open_ended → IsOpen (finished_for state world operand purpose)
finished_open state world operand (puts_it place one) terms = record { terms = terms; free = tt }
finished_open state world operand (drops_it site) terms = stand_open state world _ terms
finished_open state world operand (turns_on site) terms = stand_open state world _ terms
finished_open state world operand (gives_it place site) terms = record { terms = terms; free = tt }
finished_open state world operand (chooses_by place site) terms = record { terms = terms; free = tt }

going_open : (state : CState) (world : World) (work : CWork) (purpose : CPurpose) → world.terms ≡ open_ended → IsOpen (going_on state world work purpose)
going_open state world (finished operand) purpose terms = finished_open state world operand purpose terms
going_open state world (needs own operands) purpose terms = record { terms = terms; free = tt }
going_open state world (chooses own first) purpose terms = record { terms = terms; free = tt }
going_open state world (tests own marks second) purpose terms = record { terms = terms; free = tt }
going_open state world (carries own marks part) purpose terms = record { terms = terms; free = tt }
going_open state world (updates own update stage marks) purpose terms = record { terms = terms; free = tt }
going_open state world (fills own marks one others value) purpose terms = record { terms = terms; free = tt }
going_open state world (waits own marks) purpose terms = record { terms = terms; free = tt }

-- ---- calls

abbrev Answers : COutcome → Type 0
Answers (Ok (returns_value value world)) = world.terms ≡ open_ended
Answers (Ok (ends_with status world)) = world.terms ≡ open_ended
Answers (Err stop) = IsOwn stop

abbrev Gets : {A : Type 0} → Result (Got A) CStop → Type 0
Gets (Ok got) = got.world.terms ≡ open_ended
Gets (Err stop) = IsOwn stop

answer_gets : (answers : List ℤ) (call : Call) (world : World) → world.terms ≡ open_ended → Gets (answer_from answers call world)
answer_gets [] call world terms = subst (λ t. Gets (answer_at_end t call world)) (sym terms) terms
answer_gets (answer ∷ left) call world terms = terms

with_answer_gets : (kind : Option Scalar) (outcome : Result (Got ℤ) CStop) → Gets outcome → Answers (with_answer kind outcome)
with_answer_gets kind (Ok got) is = is
with_answer_gets kind (Err stop) is = is

granted_gets : (answers : List ℤ) (is_zero : Bool) (size : ℕ) (world : World) → world.terms ≡ open_ended → Answers (with_block (granted_on open_ended answers is_zero size world))
granted_gets [] is_zero size world terms = terms
granted_gets (answer ∷ left) is_zero size world terms = terms

effect_gets : (place : Place) (world : World) (one : Effect) → world.terms ≡ open_ended → Answers (by_effect place world one)
effect_gets place world (gives value held) terms = terms
effect_gets place world (gives_nothing held) terms = terms
effect_gets place world (ends_program status) terms = terms
effect_gets place world (wants_block is_zero size) terms =
    subst (λ t. Answers (with_block (granted_on t world.answers is_zero size world))) (sym terms) (granted_gets world.answers is_zero size world terms)
effect_gets place world (fails fault) terms = tt

behind_args : {A : Type 0} (place : Place) (outcome : Result A CWhy) (next : A → COutcome) → ((value : A) → Answers (next value)) → Answers (and_then (wrong_at place outcome) next)
behind_args place (Ok value) next all = all value
behind_args place (Err why) next all = tt

external_open : (setting : CSetting) (one : CCalled) (callee : COuter) (world : World) (known : Option KnownFunction) → world.terms ≡ open_ended → Answers (call_by_table setting one callee world known)
external_open setting one callee world (Some known) terms = behind_args one.place _ _ (λ args. effect_gets one.place world (effect known.does args world.held) terms)
external_open setting one callee world None terms = behind_args one.place _ _ (λ args. with_answer_gets _ _ (answer_gets world.answers _ world terms))

answered_open : (state : CState) (work : CWork) (purpose : CPurpose) (outcome : COutcome) → state.world.terms ≡ open_ended → Answers outcome → IsOpen (answered_by state work purpose outcome)
answered_open state work purpose (Ok (returns_value value world)) terms is = going_open state world _ purpose is
answered_open state work purpose (Ok (ends_with status world)) terms is = record { terms = is; free = tt }
answered_open state work purpose (Err stop) terms is = record { terms = terms; free = is }

taking_free : (one : CFun) (params : List ℕ) (args : List CValue) (frame : Frame) → IsFree (taking one params args frame)
taking_free one [] args frame = tt
taking_free one (first ∷ others) args frame = tt

calling_open : (setting : CSetting) (state : CState) (work : CWork) (purpose : CPurpose) (called : CCalled) (callee : CCallee) → state.world.terms ≡ open_ended → IsOpen (calling setting state work purpose called callee)
calling_open setting state work purpose called (defined one) terms = record { terms = terms; free = taking_free one one.params _ [] }
calling_open setting state work purpose called (external one) terms = answered_open state work purpose _ terms (external_open setting called one state.world (known_named one.name) terms)

-- ---- returns

ended_open : (state : CState) (world : World) (outcome : Result ℤ CWhy) → world.terms ≡ open_ended → IsOpen (ended_by state world outcome)
ended_open state world (Ok status) terms = record { terms = terms; free = tt }
ended_open state world (Err why) terms = record { terms = terms; free = tt }

returned_open : (state : CState) (world : World) (value : CValue) (callers : List CCaller) → world.terms ≡ open_ended → IsOpen (returned_to state world value callers)
returned_open state world value [] terms = ended_open state world _ terms
returned_open state world value (caller ∷ others) terms = going_open (record state { callers = others }) world _ caller.purpose terms

-- ---- steps

stepped_open : (setting : CSetting) (state : CState) (purpose : CPurpose) (stepped : CStepped) → state.world.terms ≡ open_ended → IsOpen (after_step setting state purpose stepped)
stepped_open setting state purpose (Ok (did work blocks)) terms = going_open state (with_memory blocks state.world) work purpose terms
stepped_open setting state purpose (Ok (asks_call called work)) terms = calling_open setting state work purpose called called.callee terms
stepped_open setting state purpose (Err fault) terms = record { terms = terms; free = tt }

store_open : (state : CState) (place : Place) (one : CPutting) (outcome : Result CStored CWhy) → state.world.terms ≡ open_ended → IsOpen (after_store state place one outcome)
store_open state place one (Ok done) terms = stand_open state state.world _ terms
store_open state place one (Err why) terms = record { terms = terms; free = tt }

give_open : (state : CState) (place : Place) (site : CSite) (outcome : Result CValue CWhy) → state.world.terms ≡ open_ended → IsOpen (after_give state place site outcome)
give_open state place site (Ok value) terms = returned_open state (after_return site state.world) _ state.callers terms
give_open state place site (Err why) terms = record { terms = terms; free = tt }

choice_open : (state : CState) (place : Place) (outcome : Result CStand CWhy) → state.world.terms ≡ open_ended → IsOpen (after_choice state place outcome)
choice_open state place (Ok one) terms = stand_open state state.world one terms
choice_open state place (Err why) terms = record { terms = terms; free = tt }

use_open : (setting : CSetting) (state : CState) (operand : COperand) (purpose : CPurpose) → state.world.terms ≡ open_ended → IsOpen (use_step setting state operand purpose)
use_open setting state operand (puts_it place one) terms = store_open state place one _ terms
use_open setting state operand (drops_it site) terms = finished_open state state.world operand (drops_it site) terms
use_open setting state operand (turns_on site) terms = finished_open state state.world operand (turns_on site) terms
use_open setting state operand (gives_it place site) terms = give_open state place site _ terms
use_open setting state operand (chooses_by place site) terms = choice_open state place _ terms

-- ---- lives

begun_gets : (is_zero : Bool) (size align : ℕ) (world : World) → world.terms ≡ open_ended → Gets (object_begun is_zero size align world)
begun_gets is_zero size align world terms =
    subst (λ t. Gets (begun_at is_zero size align world (after_alloc (limit_of t) (blocks_of world) size align))) (sym terms) terms

got_behind : {A B : Type 0} (first : Result (Got A) CStop) (next : Got A → Result (Got B) CStop) → Gets first → ((got : Got A) → got.world.terms ≡ open_ended → Gets (next got)) → Gets (and_then first next)
got_behind (Ok got) next is all = all got is
got_behind (Err stop) next is all = is

stop_behind : {A B : Type 0} (place : Place) (first : Result A CWhy) (next : A → Result (Got B) CStop) → ((value : A) → Gets (next value)) → Gets (and_then (as_stop place first) next)
stop_behind place (Ok value) next all = all value
stop_behind place (Err why) next all = tt

object_gets : (setting : CSetting) (place : Place) (number : ℕ) (world : World) → world.terms ≡ open_ended → Gets (object_begins setting place number world)
object_gets setting place number world terms = stop_behind place _ _ (λ shape. begun_gets false shape.laid.size shape.laid.align world terms)

begin_open : (setting : CSetting) (state : CState) (one : CBeginning) (outcome : Result (Got Ptr) CStop) → state.world.terms ≡ open_ended → Gets outcome → IsOpen (after_begin setting state one outcome)
begin_open setting state one (Ok got) terms is = stand_open state got.world _ is
begin_open setting state one (Err stop) terms is = record { terms = terms; free = is }

abbrev store_of : CSetting → CValue → Got Ptr → CShape → Result CStored CWhy
store_of setting value got shape = stored setting [] (blocks_of got.world) (unqualified shape.type) (designates (Pointer got.value)) value no_marks

abbrev got_with : Got Ptr → CStored → Result (Got Ptr) CStop
got_with got one = Ok (record { value = got.value; world = with_memory one.blocks got.world })

argument_gets : (setting : CSetting) (place : Place) (number : ℕ) (value : CValue) (got : Got Ptr) → got.world.terms ≡ open_ended → Gets (argument_stored setting place number value got)
argument_gets setting place number value got is =
    stop_behind place (shape_of setting number) (λ shape. and_then (as_stop place (store_of setting value got shape)) (got_with got))
    (λ shape. stop_behind place (store_of setting value got shape) (got_with got) (λ one. is))

param_gets : (setting : CSetting) (place : Place) (number : ℕ) (value : CValue) (world : World) → world.terms ≡ open_ended → Gets (param_begins setting place number value world)
param_gets setting place number value world terms =
    got_behind (object_begins setting place number world) (argument_stored setting place number value) (object_gets setting place number world terms)
    (argument_gets setting place number value)

param_open : (state : CState) (callee : CFun) (number : ℕ) (params : List ℕ) (args : List CValue) (frame : Frame) (outcome : Result (Got Ptr) CStop) → state.world.terms ≡ open_ended → Gets outcome → IsOpen (after_param state callee number params args frame outcome)
param_open state callee number params args frame (Ok got) terms is = record { terms = is; free = taking_free callee params args _ }
param_open state callee number params args frame (Err stop) terms is = record { terms = terms; free = is }

take_open : (setting : CSetting) (state : CState) (callee : CFun) (params : List ℕ) (args : List CValue) (frame : Frame) → state.world.terms ≡ open_ended → IsOpen (take_step setting state callee params args frame)
take_open setting state callee (number ∷ params) (value ∷ args) frame terms = param_open state callee number params args frame _ terms (param_gets setting _ number value state.world terms)
take_open setting state callee (number ∷ params) [] frame terms = record { terms = terms; free = tt }
take_open setting state callee [] [] frame terms = record { terms = terms; free = tt }
take_open setting state callee [] (value ∷ args) frame terms = record { terms = terms; free = tt }

statics_free : (left all : List CObject) → IsFree (beginning_statics left all)
statics_free [] all = control_free _
statics_free (one ∷ others) all = tt

static_open : (setting : CSetting) (state : CState) (one : CObject) (others : List CObject) (outcome : Result (Got Ptr) CStop) → state.world.terms ≡ open_ended → Gets outcome → IsOpen (after_static setting state one others outcome)
static_open setting state one others (Ok got) terms is = record { terms = is; free = statics_free others _ }
static_open setting state one others (Err stop) terms is = record { terms = terms; free = is }

main_free : (found : Option CFun) → IsFree (main_called found)
main_free None = tt
main_free (Some one) = taking_free one one.params [] []

move_open : (setting : CSetting) (state : CState) (move : CMove) → state.world.terms ≡ open_ended → IsOpen (move_step setting state move)
move_open setting state (values value purpose) terms = record { terms = terms; free = evaluating_free (begun value) purpose }
move_open setting state (reaches one site) terms = stand_open state state.world _ terms
move_open setting state (begins one) terms = begin_open setting state one _ terms (object_gets setting _ one.object state.world terms)
move_open setting state (leaves value site) terms = returned_open state (after_return site state.world) _ state.callers terms
move_open setting state calls_main terms = record { terms = terms; free = main_free (main_of setting.program) }
move_open setting state (goes_nowhere place) terms = record { terms = terms; free = tt }

step_open : (setting : CSetting) (state : CState) (control : CControl) → IsOpen state → IsOpen (step_of setting state control)
step_open setting state (begins_static one others) is = static_open setting state one others _ is.terms (stop_behind _ _ _ (λ laid. begun_gets true laid.size laid.align state.world is.terms))
step_open setting state (moves move) is = move_open setting state move is.terms
step_open setting state (evaluates work purpose) is = stepped_open setting (record state { order = (picked state.order (ready work)).order }) purpose _ is.terms
step_open setting state (uses operand purpose) is = use_open setting state operand purpose is.terms
step_open setting state (takes one) is = take_open setting state one.callee one.params one.args one.frame is.terms
step_open setting state (has_ended status) is = is
step_open setting state (has_stopped stop) is = is

after_open : (setting : CSetting) (steps : ℕ) (state : CState) → IsOpen state → IsOpen (c_after setting steps state)
after_open setting zero state is = is
after_open setting (suc steps) state is = step_open setting (c_after setting steps state) (c_after setting steps state).control (after_open setting steps state is)

-- ---- runs

own_stop : (stop : CStop) → IsOwn stop → WantsNothing (progress_of_stop stop)
own_stop (wrong fault) own = by fault.why
  where
    by : (why : CWhy) → WantsNothing (progress_of_stop (wrong (record { why = why; place = fault.place })))
    by (breaks rule) = tt
    by stuck = tt
own_stop (full need left) own = absurd own
own_stop (asks call) own = absurd own
own_stop astray own = absurd own

free_wants : (control : CControl) → IsFree control → WantsNothing (progress_at control)
free_wants (begins_static one others) free = tt
free_wants (moves move) free = tt
free_wants (evaluates work purpose) free = tt
free_wants (uses operand purpose) free = tt
free_wants (takes one) free = tt
free_wants (has_ended status) free = tt
free_wants (has_stopped stop) free = own_stop stop free

pub open_runs_want_nothing : OpenRunsWantNothing
open_runs_want_nothing program order outside steps =
    let start = c_start program order open_ended outside in
    let after = after_open (setting_of program) steps start (record { terms = refl; free = statics_free (statics_in program.objects) (statics_in program.objects) }) in
    free_wants (c_after (setting_of program) steps start).control after.free
