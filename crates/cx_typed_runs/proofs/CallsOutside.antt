-- Calls of functions that no unit defines: the objects in scope live on, and the run goes on with the value, ends or stops (ISO C99, 6.2.4,
-- 6.5.2.2, 7.20.3 and 7.20.4).
use Rattle.std.proofs.Common.{◌≡◌, refl, sym, ◌∙◌, subst, ℕ, ℤ, Bool, true, false, not, if◌then◌else◌, List, [], ◌∷◌, ◌++◌, Option, Some, None, Result, Ok, Err}
use Rattle.cr_base.specs.declared.refusal.Place.{Place}
use Rattle.cr_base.specs.declared.scalar.Scalar.{Scalar}
use Rattle.cr_world.proofs.Allocated.{allocated_keeps, gives_keeps, gives_nothing_keeps}
use Rattle.cr_world.specs.Held.{Held}
use Rattle.cr_world.specs.Known.{Known, KnownFunction, known_named, Effect, gives, gives_nothing, ends_program, wants_block, fails, effect}
use Rattle.cr_world.specs.Laws.{HeapLives}
use Rattle.cr_world.specs.World.{World, Terms, open_ended, trail_of, blocks_of, wrong, full, asks, astray, answer_at_end, answer_from, is_given, is_refused_by, is_of_store, after_allocation, granted_on}
use Rattle.cx_core.specs.Trees.{CTy, CExpr, type_of, COuter, CFun, CProgram}
use Rattle.cx_core.specs.Typing.{IsTyped}
use Rattle.cx_mean.specs.Calls.{CCalled, returns_value, ends_with, COutcome, wrong_at, values_of, arguments, with_answer, with_block, by_effect, call_by_table, external_call}
use Rattle.cx_mean.specs.Moves.{CPurpose}
use Rattle.cx_mean.specs.Operands.{CWhy, CStop, Slot, Frame}
use Rattle.cx_mean.specs.Settings.{CSetting, scalar_in_type}
use Rattle.cx_mean.specs.State.{CState, at_control, has_ended, own_frame, answered_by}
use Rattle.cx_mean.specs.Work.{CWork}
use Rattle.ext_calls.specs.declared.call.Arg.{Arg}
use Rattle.ext_calls.specs.declared.call.Call.{Call}
use Rattle.mem_bytes.proofs.Slots.{live_within}
use Rattle.mem_bytes.specs.Access.{and_then}
use Rattle.mem_bytes.specs.declared.value.Value.{Value}
use Rattle.mem_bytes.specs.Memory.{Block, Blocks, live_block}
use Rattle.cx_typed_work.specs.Calls.{IsWaitingFor}
use Rattle.cx_typed_work.specs.ExternalCalls.{KeepsObjects, GoesNoFurther, CallLeaves}
use Rattle.cx_typed_work.specs.Scenes.{IsSameShape}
use Rattle.cx_typed_work.specs.Works.{IsWorkOf}
use Rattle.cx_typed_runs.proofs.Evaluating.{IsReady}
use Rattle.cx_typed_runs.proofs.GoingOn.{AllStand, others_of}
use Rattle.cx_typed_runs.proofs.Owned.{owned_back}
use Rattle.cx_typed_runs.proofs.Returns.{resumed_typed}
use Rattle.cx_typed_runs.proofs.Taking.{IsAround, stopped_typed}
use Rattle.cx_typed_runs.specs.Sites.{IsSlotAlive, AreOwned}
use Rattle.cx_typed_runs.specs.States.{in_function, home_in, IsPurposeOf, StopsByRule, IsTypedState}

-- ---- allocated blocks after a call

-- they live, and the world in which a program ends is that of the call
abbrev pub LeavesHeld : World → COutcome → Type 0
LeavesHeld before (Ok (returns_value value after)) = HeapLives after.held
LeavesHeld before (Ok (ends_with status after)) = after ≡ before
LeavesHeld before (Err stop) = Unit {0}

store_held : (world : World) (is_zero : Bool) (size : ℕ) (left : List ℤ) (refused test : Bool) → HeapLives world.held
    → LeavesHeld world (with_block (if test then after_allocation (not refused) is_zero size left world else Err astray))
store_held world is_zero size left refused true is = allocated_keeps (not refused) is_zero size world.held is
store_held world is_zero size left refused false is = tt

granted_held : (world : World) (is_zero : Bool) (size : ℕ) (terms : Terms) (answers : List ℤ) → HeapLives world.held → LeavesHeld world (with_block (granted_on terms answers is_zero size world))
granted_held world is_zero size open_ended [] is = allocated_keeps true is_zero size world.held is
granted_held world is_zero size open_ended (answer ∷ left) is = allocated_keeps (is_given answer) is_zero size world.held is
granted_held world is_zero size (trail_of limit) [] is = tt
granted_held world is_zero size (trail_of limit) (answer ∷ left) is =
    store_held world is_zero size left (is_refused_by limit world.held.blocks size) (is_of_store (is_refused_by limit world.held.blocks size) answer) is

effect_held : (place : Place) (world : World) (does : Known) (args : List Value) (one : Effect) → HeapLives world.held → effect does args world.held ≡ one → LeavesHeld world (by_effect place world one)
effect_held place world does args (gives value held) is e = gives_keeps does args value world.held held is e
effect_held place world does args (gives_nothing held) is e = gives_nothing_keeps does args world.held held is e
effect_held place world does args (ends_program status) is e = refl
effect_held place world does args (wants_block is_zero size) is e = granted_held world is_zero size world.terms world.answers is
effect_held place world does args (fails fault) is e = tt

known_held : (place : Place) (world : World) (does : Known) (args : Result (List Value) CWhy) → HeapLives world.held
    → LeavesHeld world (and_then (wrong_at place args) (λ all. by_effect place world (effect does all world.held)))
known_held place world does (Ok args) is = effect_held place world does args (effect does args world.held) is refl
known_held place world does (Err why) is = tt

answer_held : (world : World) (kind : Option Scalar) (call : Call) (terms : Terms) (answers : List ℤ) → world.terms ≡ terms → HeapLives world.held → LeavesHeld world (with_answer kind (answer_from answers call world))
answer_held world kind call open_ended [] e is = subst (λ terms. LeavesHeld world (with_answer kind (answer_at_end terms call world))) (sym e) is
answer_held world kind call (trail_of limit) [] e is = subst (λ terms. LeavesHeld world (with_answer kind (answer_at_end terms call world))) (sym e) tt
answer_held world kind call terms (answer ∷ left) e is = is

opaque_held : (place : Place) (world : World) (kind : Option Scalar) (name : List ℕ) (args : Result (List Arg) CWhy) → HeapLives world.held
    → LeavesHeld world (and_then (wrong_at place args) (λ all. with_answer kind (answer_from world.answers (record { name = name; args = all }) world)))
opaque_held place world kind name (Ok args) is = answer_held world kind (record { name = name; args = args }) world.terms world.answers refl is
opaque_held place world kind name (Err why) is = tt

table_held : (setting : CSetting) (called : CCalled) (callee : COuter) (world : World) (found : Option KnownFunction) → HeapLives world.held → LeavesHeld world (call_by_table setting called callee world found)
table_held setting called callee world (Some known) is = known_held called.place world known.does (values_of called.args) is
table_held setting called callee world None is = opaque_held called.place world (scalar_in_type setting called.type) callee.name (arguments setting (blocks_of world) called.args) is

pub outside_held : (setting : CSetting) (called : CCalled) (callee : COuter) (world : World) → HeapLives world.held → LeavesHeld world (external_call setting called callee world)
outside_held setting called callee world is = table_held setting called callee world (known_named callee.name) is

-- ---- objects after a call

same_alive : (program : CProgram) (before after : Blocks) (slot : Slot) → IsSameShape (live_block before slot.block) (live_block after slot.block) → IsSlotAlive program before slot → IsSlotAlive program after slot
same_alive program before after slot shape is = by (live_block after slot.block) refl (subst (λ b. IsSameShape b (live_block after slot.block)) is.live shape)
  where
    by : (found : Option Block) → live_block after slot.block ≡ found → IsSameShape (Some is.held) found → IsSlotAlive program after slot
    by None e same = cc (same.lives refl)
    by (Some block) e same = record {
      one = is.one;
      object_is = is.object_is;
      laid = is.laid;
      laid_is = is.laid_is;
      held = block;
      live = e;
      size = sym same.size ∙ is.size;
      align = sym same.align ∙ is.align;
    }

-- the objects in scope aren't allocated ones, so they live on
pub kept_owned : (program : CProgram) (before after : Held) (slots : Frame) → KeepsObjects before after → AreOwned program before slots → AreOwned program after slots
kept_owned program before after [] keeps owned = tt
kept_owned program before after (slot ∷ others) keeps owned =
    let within = live_within before.blocks slot.block owned.0.held owned.0.live in (
      same_alive program before.blocks after.blocks slot (keeps.lives slot.block within owned.1) owned.0,
      keeps.not_allocated slot.block within owned.1,
      owned.2,
      kept_owned program before after others keeps owned.3,
    )

-- ---- the step

named_by : (stop : CStop) → GoesNoFurther stop → StopsByRule stop
named_by (wrong fault) is = is
named_by (full need left) is = tt
named_by (asks call) is = tt
named_by astray is = tt

-- what a state has around a full expression
pub around_of : (program : CProgram) (one : CFun) (result : CTy) (state : CState) (world : World) (purpose : CPurpose) → IsReady program (in_function one result) state world purpose
    → IsAround program result state world (own_frame purpose)
around_of program one result state world purpose ready =
    record { linked = ready.linked; memory = ready.memory; held = ready.held; owned = ready.owned; callers = ready.callers; begun = ready.begun }

pub answered_typed : AllStand → (program : CProgram) (one : CFun) (result : CTy) (state : CState) (node : CExpr) (work : CWork) (purpose : CPurpose) (type : CTy) → IsReady program (in_function one result) state state.world purpose
    → IsTyped (home_in program (in_function one result) purpose) node → IsWorkOf (home_in program (in_function one result) purpose) node work → IsPurposeOf program (in_function one result) (type_of node) purpose → IsWaitingFor type work
    → (outcome : COutcome) → CallLeaves program type state.world.held outcome → LeavesHeld state.world outcome → IsTypedState program (answered_by state work purpose outcome)
answered_typed all program one result state node work purpose type ready typed left fits waiting (Ok (returns_value value after)) leaves held =
    resumed_typed all program one result state after node work purpose type value
    (record {
      linked = ready.linked;
      memory = leaves.1;
      held = held;
      owned = kept_owned program state.world.held after.held (own_frame purpose ++ others_of state) leaves.2 ready.owned;
      callers = ready.callers;
      begun = ready.begun;
    }) typed left fits waiting leaves.0
answered_typed all program one result state node work purpose type ready typed left fits waiting (Ok (ends_with status after)) leaves same =
    subst (λ world. IsTypedState program (at_control state world (has_ended status))) (sym same)
    (record { memory = ready.memory; held = ready.held; owned = owned_back program state.world.held (own_frame purpose) (others_of state) ready.owned; control = tt })
answered_typed all program one result state node work purpose type ready typed left fits waiting (Err stop) leaves held =
    stopped_typed program result state (own_frame purpose) stop (around_of program one result state state.world purpose ready) (named_by stop leaves)
