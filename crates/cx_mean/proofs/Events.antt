-- The calls that a run made stay, and others come behind them.
use Rattle.std.proofs.Common.{◌≡◌, ℕ, zero, suc, ℤ, pos, Bool, true, false, List, [], ◌∷◌, ◌++◌, map, Option, Some, None, Result, Ok, Err, refl, sym, ap, ◌∙◌, append_assoc, append-nil, if◌then◌else◌, not}
use Rattle.cr_base.specs.declared.refusal.Place.{Place}
use Rattle.cr_base.specs.declared.scalar.Scalar.{Scalar}
use Rattle.cr_world.specs.Known.{Known, Effect, gives, gives_nothing, ends_program, wants_block, fails, effect, KnownFunction, known_named}
use Rattle.cr_world.specs.World.{World, Got, astray, after_allocation, blocks_of, Terms, open_ended, trail_of, with_memory, answered, answer_from, granted, granted_on, begun_at, limit_of, is_refused_by, is_of_store}
use Rattle.cx_core.specs.Trees.{unqualified, CFun, COuter, CObject}
use Rattle.cx_mean.specs.Calls.{CCallee, defined, external, CCalled, returns_value, ends_with, COutcome, external_call, call_by_table, by_effect, with_block, with_answer, wrong_at, values_of, arguments}
use Rattle.cx_mean.specs.Laws.{EventsOnlyGrow}
use Rattle.cx_mean.specs.Moves.{CPurpose, puts_it, drops_it, turns_on, gives_it, chooses_by, CMove, begins, leaves, CPutting, CBeginning, CStand}
use Rattle.cx_mean.specs.Accesses.{CStored, stored}
use Rattle.cx_mean.specs.Marks.{no_marks}
use Rattle.cx_mean.specs.Operands.{needed, designates, CWhy, CStop, CValue, COperand, Frame}
use Rattle.cx_mean.specs.Paths.{CSite}
use Rattle.cx_mean.specs.Run.{c_start, c_after}
use Rattle.cx_mean.specs.Settings.{CSetting, setting_of, scalar_in_type, extent_in}
use Rattle.cx_mean.specs.State.{CCaller, CControl, begins_static, moves, evaluates, uses, takes, has_ended, has_stopped, CState, going_on, calling, answered_by, returned_to, ended_by, after_return, after_step, after_store, after_give, after_choice, after_begin, after_param, after_static, take_step, use_step, move_step, step_of, status_in, given_back, object_begins, param_begins, argument_stored, static_begins, shape_of, as_stop, no_place, place_of_body}
use Rattle.cx_mean.specs.Steps.{picked, did, asks_call, CStepped}
use Rattle.cx_mean.specs.Work.{CWork, finished, resumed, ready}
use Rattle.cx_mean.proofs.Ended.{after_sum}
use Rattle.ext_calls.specs.declared.call.Arg.{Arg}
use Rattle.ext_calls.specs.declared.call.Call.{Call}
use Rattle.ext_calls.specs.declared.call.Made.{Made}
use Rattle.mem_bytes.specs.Counted.{after_alloc}
use Rattle.mem_bytes.specs.Memory.{Blocks}
use Rattle.mem_bytes.specs.Access.{and_then}
use Rattle.mem_bytes.specs.declared.fault.StoreFault.{StoreFault}
use Rattle.mem_bytes.specs.declared.fault.StoreFault.TheVariants.{Full, Memory}
use Rattle.mem_bytes.specs.declared.value.Ptr.{Ptr}
use Rattle.mem_bytes.specs.declared.value.Value.{Value}
use Rattle.mem_bytes.specs.declared.value.Value.TheVariants.{Object as Pointer}

-- the calls of one world, and others
pub record Follows (before after : List Made) : Type 0 where
  pub others : List Made
  pub are : after ≡ before ++ others

same : (made : List Made) → Follows made made
same made = record { others = []; are = sym (append-nil made) }

trans : (first second third : List Made) → Follows first second → Follows second third → Follows first third
trans first second third one other = record {
  others = one.others ++ other.others;
  are = other.are ∙ (ap (λ (list : List Made). list ++ other.others) one.are ∙ append_assoc first one.others other.others);
}

-- ---- calls

-- what a call of a function leaves that no unit defines
abbrev Leaves : World → COutcome → Type 0
Leaves world (Ok (returns_value value after)) = Follows world.made after.made
Leaves world (Ok (ends_with status after)) = Follows world.made after.made
Leaves world (Err stop) = Unit {0}

abbrev Gets : {A : Type 0} → World → Result (Got A) CStop → Type 0
Gets world (Ok got) = Follows world.made got.world.made
Gets world (Err stop) = Unit {0}

from_answers : (answers : List ℤ) (terms : Terms) (call : Call) (world : World) → world.terms ≡ terms → Gets world (answer_from answers call world)
from_answers (answer ∷ left) terms call world is = record { others = record { call = call; answer = answer } ∷ []; are = refl }
from_answers [] open_ended call world is = rw is (record { others = record { call = call; answer = pos 0 } ∷ []; are = refl })
from_answers [] (trail_of limit) call world is = rw is tt

with_answer_leaves : (world : World) (kind : Option Scalar) (outcome : Result (Got ℤ) CStop) → Gets world outcome → Leaves world (with_answer kind outcome)
with_answer_leaves world kind (Ok got) gets = gets
with_answer_leaves world kind (Err stop) gets = tt

with_block_leaves : (world : World) (outcome : Result (Got Value) CStop) → Gets world outcome → Leaves world (with_block outcome)
with_block_leaves world (Ok got) gets = gets
with_block_leaves world (Err stop) gets = tt

store_gets : (equal refused is_zero : Bool) (size : ℕ) (left : List ℤ) (world : World) →
    Gets world (if equal then after_allocation (not refused) is_zero size left world else Err astray)
store_gets true refused is_zero size left world = same world.made
store_gets false refused is_zero size left world = tt

granted_gets : (terms : Terms) (answers : List ℤ) (is_zero : Bool) (size : ℕ) (world : World) → Gets world (granted_on terms answers is_zero size world)
granted_gets open_ended [] is_zero size world = same world.made
granted_gets open_ended (answer ∷ left) is_zero size world = same world.made
granted_gets (trail_of limit) [] is_zero size world = tt
granted_gets (trail_of limit) (answer ∷ left) is_zero size world =
    store_gets (is_of_store (is_refused_by limit world.held.blocks size) answer) (is_refused_by limit world.held.blocks size) is_zero size left world

effect_leaves : (place : Place) (world : World) (one : Effect) → Leaves world (by_effect place world one)
effect_leaves place world (gives value held) = same world.made
effect_leaves place world (gives_nothing held) = same world.made
effect_leaves place world (ends_program status) = same world.made
effect_leaves place world (wants_block is_zero size) =
    with_block_leaves world (granted is_zero size world) (granted_gets world.terms world.answers is_zero size world)
effect_leaves place world (fails fault) = tt

known_leaves : (one : CCalled) (does : Known) (world : World) (args : Result (List Value) CStop) →
    Leaves world (and_then args (λ args. by_effect one.place world (effect does args world.held)))
known_leaves one does world (Ok args) = effect_leaves one.place world (effect does args world.held)
known_leaves one does world (Err stop) = tt

opaque_leaves : (setting : CSetting) (one : CCalled) (callee : COuter) (world : World) (args : Result (List Arg) CStop) →
    Leaves world (and_then args (λ args. with_answer (scalar_in_type setting one.type) (answered (record { name = callee.name; args = args }) world)))
opaque_leaves setting one callee world (Ok args) =
    with_answer_leaves world (scalar_in_type setting one.type) (answered (record { name = callee.name; args = args }) world)
    (from_answers world.answers world.terms (record { name = callee.name; args = args }) world refl)
opaque_leaves setting one callee world (Err stop) = tt

table_leaves : (setting : CSetting) (one : CCalled) (callee : COuter) (world : World) (known : Option KnownFunction) → Leaves world (call_by_table setting one callee world known)
table_leaves setting one callee world (Some known) = known_leaves one known.does world (wrong_at one.place (values_of one.args))
table_leaves setting one callee world None = opaque_leaves setting one callee world (wrong_at one.place (arguments setting (blocks_of world) one.args))

begun_gets : (is_zero : Bool) (size align : ℕ) (world : World) (outcome : Result Blocks StoreFault) → Gets world (begun_at is_zero size align world outcome)
begun_gets is_zero size align world (Ok blocks) = same world.made
begun_gets is_zero size align world (Err (Full need left)) = tt
begun_gets is_zero size align world (Err Memory) = tt

-- ---- steps

abbrev Steps : World → CState → Type 0
Steps world state = Follows world.made state.world.made

going_follows : (state : CState) (world : World) (work : CWork) (purpose : CPurpose) → Steps world (going_on state world work purpose)
going_follows state world (finished operand) (drops_it site) = same world.made
going_follows state world (finished operand) (turns_on site) = same world.made
going_follows state world (finished operand) purpose = same world.made
going_follows state world work purpose = same world.made

ended_follows : (state : CState) (world : World) (status : Result ℤ CWhy) → Steps world (ended_by state world status)
ended_follows state world (Ok status) = same world.made
ended_follows state world (Err why) = same world.made

returned_follows : (state : CState) (world : World) (value : CValue) (callers : List CCaller) → Steps world (returned_to state world value callers)
returned_follows state world value [] = ended_follows state world (status_in value)
returned_follows state world value (caller ∷ others) = going_follows (record state { callers = others }) world (resumed value caller.work) caller.purpose

answered_follows : (state : CState) (work : CWork) (purpose : CPurpose) (outcome : COutcome) → Leaves state.world outcome → Steps state.world (answered_by state work purpose outcome)
answered_follows state work purpose (Ok (returns_value value world)) leaves_it =
    trans state.world.made world.made _ leaves_it (going_follows state world (resumed value work) purpose)
answered_follows state work purpose (Ok (ends_with status world)) leaves_it = leaves_it
answered_follows state work purpose (Err stop) leaves_it = same state.world.made

calling_follows : (setting : CSetting) (state : CState) (work : CWork) (purpose : CPurpose) (called : CCalled) (callee : CCallee) →
    Steps state.world (calling setting state work purpose called callee)
calling_follows setting state work purpose called (defined one) = same state.world.made
calling_follows setting state work purpose called (external one) =
    answered_follows state work purpose (external_call setting called one state.world) (table_leaves setting called one state.world (known_named one.name))

stepped_follows : (setting : CSetting) (state : CState) (purpose : CPurpose) (outcome : CStepped) → Steps state.world (after_step setting state purpose outcome)
stepped_follows setting state purpose (Ok (did work blocks)) = going_follows state (with_memory blocks state.world) work purpose
stepped_follows setting state purpose (Ok (asks_call called work)) = calling_follows setting state work purpose called called.callee
stepped_follows setting state purpose (Err fault) = same state.world.made

stored_follows : (state : CState) (place : Place) (one : CPutting) (outcome : Result CStored CWhy) → Steps state.world (after_store state place one outcome)
stored_follows state place one (Ok done) = same state.world.made
stored_follows state place one (Err why) = same state.world.made

given_follows : (state : CState) (place : Place) (site : CSite) (outcome : Result CValue CWhy) → Steps state.world (after_give state place site outcome)
given_follows state place site (Ok value) = returned_follows state (after_return site state.world) (given_back value) state.callers
given_follows state place site (Err why) = same state.world.made

choice_follows : (state : CState) (place : Place) (outcome : Result CStand CWhy) → Steps state.world (after_choice state place outcome)
choice_follows state place (Ok one) = same state.world.made
choice_follows state place (Err why) = same state.world.made

use_follows : (setting : CSetting) (state : CState) (operand : COperand) (purpose : CPurpose) → Steps state.world (use_step setting state operand purpose)
use_follows setting state operand (puts_it place one) = stored_follows state place one _
use_follows setting state operand (drops_it site) = same state.world.made
use_follows setting state operand (turns_on site) = same state.world.made
use_follows setting state operand (gives_it place site) = given_follows state place site _
use_follows setting state operand (chooses_by place site) = choice_follows state place _

got_begin : (setting : CSetting) (state : CState) (one : CBeginning) (outcome : Result (Got Ptr) CStop) → Gets state.world outcome → Steps state.world (after_begin setting state one outcome)
got_begin setting state one (Ok got) gets = gets
got_begin setting state one (Err stop) gets = same state.world.made

got_static : (setting : CSetting) (state : CState) (one : CObject) (others : List CObject) (outcome : Result (Got Ptr) CStop) → Gets state.world outcome →
    Steps state.world (after_static setting state one others outcome)
got_static setting state one others (Ok got) gets = gets
got_static setting state one others (Err stop) gets = same state.world.made

got_param : (state : CState) (callee : CFun) (number : ℕ) (params : List ℕ) (args : List CValue) (frame : Frame) (outcome : Result (Got Ptr) CStop) → Gets state.world outcome →
    Steps state.world (after_param state callee number params args frame outcome)
got_param state callee number params args frame (Ok got) gets = gets
got_param state callee number params args frame (Err stop) gets = same state.world.made

shaped_gets : {A : Type 0} (world : World) (outcome : Result A CStop) (go : A → Result (Got Ptr) CStop) → ((one : A) → Gets world (go one)) → Gets world (and_then outcome go)
shaped_gets world (Ok one) go gets = gets one
shaped_gets world (Err stop) go gets = tt

begins_gets : (setting : CSetting) (place : Place) (number : ℕ) (world : World) → Gets world (object_begins setting place number world)
begins_gets setting place number world =
    shaped_gets world (as_stop place (shape_of setting number)) _
    (λ shape. begun_gets false shape.laid.size shape.laid.align world (after_alloc (limit_of world.terms) world.held.blocks shape.laid.size shape.laid.align))

-- a piece behind another
then_gets : (world : World) (outcome : Result (Got Ptr) CStop) (go : Got Ptr → Result (Got Ptr) CStop) → Gets world outcome → ((got : Got Ptr) → Gets got.world (go got)) → Gets world (and_then outcome go)
then_gets world (Ok got) go gets rest = after_gets (go got) (rest got) where
  after_gets : (next : Result (Got Ptr) CStop) → Gets got.world next → Gets world next
  after_gets (Ok more) one = trans world.made got.world.made more.world.made gets one
  after_gets (Err stop) one = tt
then_gets world (Err stop) go gets rest = tt

stored_gets : (setting : CSetting) (place : Place) (number : ℕ) (value : CValue) (got : Got Ptr) → Gets got.world (argument_stored setting place number value got)
stored_gets setting place number value got =
    shaped_gets got.world (as_stop place (shape_of setting number)) _
    (λ shape. shaped_gets got.world (as_stop place (stored setting [] (blocks_of got.world) (unqualified shape.type) (designates (Pointer got.value)) value no_marks)) _
    (λ one. same got.world.made))

take_follows : (setting : CSetting) (state : CState) (callee : CFun) (params : List ℕ) (args : List CValue) (frame : Frame) → Steps state.world (take_step setting state callee params args frame)
take_follows setting state callee (number ∷ params) (value ∷ args) frame =
    got_param state callee number params args frame (param_begins setting (place_of_body callee.body) number value state.world)
    (then_gets state.world (object_begins setting (place_of_body callee.body) number state.world) _
    (begins_gets setting (place_of_body callee.body) number state.world)
    (stored_gets setting (place_of_body callee.body) number value))
take_follows setting state callee params args frame = same state.world.made

move_follows : (setting : CSetting) (state : CState) (move : CMove) → Steps state.world (move_step setting state move)
move_follows setting state (begins one) = got_begin setting state one (object_begins setting no_place one.object state.world) (begins_gets setting no_place one.object state.world)
move_follows setting state (leaves value site) = returned_follows state (after_return site state.world) (given_back value) state.callers
move_follows setting state move = same state.world.made

step_follows : (setting : CSetting) (state : CState) (control : CControl) → Steps state.world (step_of setting state control)
step_follows setting state (begins_static one others) =
    got_static setting state one others (static_begins setting one state.world)
    (shaped_gets state.world (as_stop no_place (needed (extent_in setting one.type))) _
    (λ laid. begun_gets true laid.size laid.align state.world (after_alloc (limit_of state.world.terms) state.world.held.blocks laid.size laid.align)))
step_follows setting state (moves move) = move_follows setting state move
step_follows setting state (evaluates work purpose) = stepped_follows setting (record state { order = (picked state.order (ready work)).order }) purpose _
step_follows setting state (uses operand purpose) = use_follows setting state operand purpose
step_follows setting state (takes one) = take_follows setting state one.callee one.params one.args one.frame
step_follows setting state (has_ended status) = same state.world.made
step_follows setting state (has_stopped stop) = same state.world.made

after_follows : (setting : CSetting) (steps : ℕ) (state : CState) → Steps state.world (c_after setting steps state)
after_follows setting zero state = same state.world.made
after_follows setting (suc steps) state =
    trans state.world.made (c_after setting steps state).world.made _ (after_follows setting steps state)
    (step_follows setting (c_after setting steps state) (c_after setting steps state).control)

map_append : (first second : List Made) → map (λ one. one.call) (first ++ second) ≡ map (λ one. one.call) first ++ map (λ one. one.call) second
map_append [] second = refl
map_append (one ∷ more) second = ap (λ (list : List Call). one.call ∷ list) (map_append more second)

pub events_only_grow : EventsOnlyGrow
events_only_grow program order terms outside steps more =
    let state = c_after (setting_of program) steps (c_start program order terms outside) in
    let follows = after_follows (setting_of program) more state in
    record {
      others = map (λ one. one.call) follows.others;
      are = ap (λ (one : CState). map (λ made. made.call) one.world.made) (after_sum (setting_of program) more steps (c_start program order terms outside))
          ∙ (ap (λ (list : List Made). map (λ made. made.call) list) follows.are ∙ map_append state.world.made follows.others);
    }
