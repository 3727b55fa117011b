-- No step of a program brings a dead block back to life, nor changes how large or how aligned one is that lives on (ISO C99, 6.2.4p2).
use Rattle.std.proofs.Common.{◌≡◌, ℕ, zero, suc, ◌+◌, ◌<◌, Bool, true, false, nat_le, if◌then◌else◌, ℤ, List, [], ◌∷◌, length, take, drop, Option, Some, None, Result, Ok, Err, refl}
use Rattle.cr_base.specs.declared.refusal.Place.{Place}
use Rattle.cr_world.specs.Held.{fresh_block}
use Rattle.cr_world.specs.World.{Got, World, blocks_of, begun_at, limit_of, object_begun}
use Rattle.cx_core.specs.Trees.{unqualified, CObject, CFun}
use Rattle.cx_mean.proofs.KeptNodes.{IfGiven, given_and, given_then}
use Rattle.cx_mean.specs.Accesses.{CStored, stored}
use Rattle.cx_mean.specs.Calls.{CCallee, defined, external, CCalled, returns_value, ends_with, COutcome, external_call}
use Rattle.cx_mean.specs.Marks.{no_marks}
use Rattle.cx_mean.specs.Moves.{CPutting, CPurpose, puts_it, drops_it, turns_on, gives_it, chooses_by, CBeginning, CMove, values, reaches, begins, leaves, calls_main, goes_nowhere, CStand, slots_of_site, is_switch}
use Rattle.cx_mean.specs.Nodes.{truth_of_value}
use Rattle.cx_mean.specs.Operands.{CWhy, CStop, CValue, designates, COperand, with_marks, Frame, scalar_value}
use Rattle.cx_mean.specs.Paths.{CLevel, CBottom, CSite}
use Rattle.cx_mean.specs.Run.{c_after}
use Rattle.cx_mean.specs.Settings.{CSetting}
use Rattle.cx_mean.specs.State.{CCaller, CControl, begins_static, moves, evaluates, uses, takes, has_ended, has_stopped, CState, finished_for, going_on, answered_by, calling, ended_by, status_in, given_back, returned_to, after_return, returning, frame_for, after_step, expression_step, after_store, value_given, after_give, choice_made, choice_at, after_choice, use_step, shape_of, as_stop, object_begins, with_slot, slot, after_begin, argument_stored, param_begins, after_param, place_of_body, take_step, static_begins, after_static, no_place, move_step, step_of, c_step}
use Rattle.cx_mean.specs.Steps.{did, asks_call, CStepped, step_at, picked}
use Rattle.cx_mean.specs.Values.{number_in}
use Rattle.cx_mean.specs.Work.{CWork, finished, needs, chooses, tests, carries, updates, fills, waits, ready}
use Rattle.mem_bytes.specs.Access.{part_of, part_at, live_read}
use Rattle.mem_bytes.specs.Counted.{after_alloc}
use Rattle.mem_bytes.specs.declared.fault.Fault.TheVariants.{Outside}
use Rattle.mem_bytes.specs.declared.fault.StoreFault.{StoreFault}
use Rattle.mem_bytes.specs.declared.fault.StoreFault.TheVariants.{Full, Memory}
use Rattle.mem_bytes.specs.declared.value.Ptr.{Ptr}
use Rattle.mem_bytes.specs.declared.value.Value.TheVariants.{Object as Pointer}
use Rattle.mem_bytes.specs.Memory.{Block, Blocks, live_block, size_of}
use Rattle.cx_stays.proofs.CallLeaves.{OutcomeLeaves, outside_leaves}
use Rattle.cx_stays.proofs.Lives.{lives_same, lives_then, lives_made}
use Rattle.cx_stays.proofs.StandLives.{StandLives, without_lives, next_lives, putting_lives, beginning_lives, reached_lives, choosing_lives, switching_lives, turning_on_lives}
use Rattle.cx_stays.proofs.StepLives.{StepLives, step_lives}
use Rattle.cx_stays.proofs.StoreLives.{StoreLives, store_lives, put_stored_lives}
use Rattle.cx_stays.specs.Stays.{IsFault, LivesAgree, DeadStaysDead}

-- the lives of blocks in a state, since an earlier memory
abbrev StateLives : Blocks → CState → Type 0
StateLives before state = LivesAgree before (blocks_of state.world)

-- ---- full expressions

finished_lives : (state : CState) (world : World) (operand : COperand) (purpose : CPurpose) → StateLives (blocks_of world) (finished_for state world operand purpose)
finished_lives state world operand (drops_it site) = next_lives (blocks_of world) site.levels site.bottom
finished_lives state world operand (turns_on site) = turning_on_lives (blocks_of world) site
finished_lives state world operand (puts_it place one) = lives_same (blocks_of world)
finished_lives state world operand (gives_it place site) = lives_same (blocks_of world)
finished_lives state world operand (chooses_by place site) = lives_same (blocks_of world)

going_lives : (state : CState) (world : World) (work : CWork) (purpose : CPurpose) → StateLives (blocks_of world) (going_on state world work purpose)
going_lives state world (finished operand) purpose = finished_lives state world operand purpose
going_lives state world (needs node operands) purpose = lives_same (blocks_of world)
going_lives state world (chooses node first) purpose = lives_same (blocks_of world)
going_lives state world (tests node marks second) purpose = lives_same (blocks_of world)
going_lives state world (carries node marks part) purpose = lives_same (blocks_of world)
going_lives state world (updates node update stage marks) purpose = lives_same (blocks_of world)
going_lives state world (fills node marks one others value) purpose = lives_same (blocks_of world)
going_lives state world (waits node marks) purpose = lives_same (blocks_of world)

-- a full expression goes on in another world
then_going : (before : Blocks) (state : CState) (world : World) (work : CWork) (purpose : CPurpose) → LivesAgree before (blocks_of world) → StateLives before (going_on state world work purpose)
then_going before state world work purpose lives = lives_then before (blocks_of world) _ lives (going_lives state world work purpose)

-- ---- calls and returns

answered_lives : (state : CState) (work : CWork) (purpose : CPurpose) (outcome : COutcome) → OutcomeLeaves state.world outcome → StateLives (blocks_of state.world) (answered_by state work purpose outcome)
answered_lives state work purpose (Ok (returns_value value world)) left = then_going (blocks_of state.world) state world _ purpose left.1.lives
answered_lives state work purpose (Ok (ends_with status world)) left = left.lives
answered_lives state work purpose (Err stop) left = lives_same (blocks_of state.world)

calling_lives : (setting : CSetting) (state : CState) (work : CWork) (purpose : CPurpose) (called : CCalled) (callee : CCallee) → StateLives (blocks_of state.world) (calling setting state work purpose called callee)
calling_lives setting state work purpose called (defined one) = lives_same (blocks_of state.world)
calling_lives setting state work purpose called (external one) =
    answered_lives state work purpose (external_call setting called one state.world) (outside_leaves setting called one state.world)

ended_lives : (state : CState) (world : World) (status : Result ℤ CWhy) → StateLives (blocks_of world) (ended_by state world status)
ended_lives state world (Ok status) = lives_same (blocks_of world)
ended_lives state world (Err why) = lives_same (blocks_of world)

returned_lives : (state : CState) (world : World) (value : CValue) (callers : List CCaller) → StateLives (blocks_of world) (returned_to state world value callers)
returned_lives state world value [] = ended_lives state world (status_in value)
returned_lives state world value (caller ∷ others) = going_lives (record state { callers = others }) world _ caller.purpose

returning_lives : (state : CState) (value : CValue) (site : CSite) → StateLives (blocks_of state.world) (returning state value site)
returning_lives state value site =
    lives_then (blocks_of state.world) (blocks_of (after_return site state.world)) _ (without_lives (blocks_of state.world) (slots_of_site site))
    (returned_lives state (after_return site state.world) (given_back value) state.callers)

-- ---- steps of full expressions

stepped_lives : (setting : CSetting) (state : CState) (purpose : CPurpose) (outcome : CStepped) → StepLives (blocks_of state.world) outcome → StateLives (blocks_of state.world) (after_step setting state purpose outcome)
stepped_lives setting state purpose (Ok (did work blocks)) lives = lives_then (blocks_of state.world) blocks _ lives (going_lives state _ work purpose)
stepped_lives setting state purpose (Ok (asks_call called work)) lives = calling_lives setting state work purpose called called.callee
stepped_lives setting state purpose (Err fault) lives = lives_same (blocks_of state.world)

evaluated_lives : (setting : CSetting) (state : CState) (work : CWork) (purpose : CPurpose) → StateLives (blocks_of state.world) (expression_step setting state work purpose)
evaluated_lives setting state work purpose =
    let one = picked state.order (ready work) in
    stepped_lives setting (record state { order = one.order }) purpose (step_at setting (frame_for state purpose) (blocks_of state.world) one.pick work)
    (step_lives setting (frame_for state purpose) (blocks_of state.world) work one.pick)

-- ---- uses of finished values

stored_lives : (state : CState) (place : Place) (one : CPutting) (outcome : Result CStored CWhy) → IfGiven (StoreLives (blocks_of state.world)) outcome → StateLives (blocks_of state.world) (after_store state place one outcome)
stored_lives state place one (Ok done) lives = lives_then (blocks_of state.world) done.blocks _ lives (putting_lives done.blocks one.object one.others one.behind)
stored_lives state place one (Err why) lives = lives_same (blocks_of state.world)

gave_lives : (state : CState) (place : Place) (site : CSite) (outcome : Result CValue CWhy) → StateLives (blocks_of state.world) (after_give state place site outcome)
gave_lives state place site (Ok value) = returning_lives state value site
gave_lives state place site (Err why) = lives_same (blocks_of state.world)

made_choice_lives : (chooses_one : Bool) (blocks : Blocks) (value : CValue) (level : CLevel) (outer : List CLevel) (bottom : CBottom) → IfGiven (StandLives blocks) (choice_made chooses_one blocks value level outer bottom)
made_choice_lives true blocks value level outer bottom =
    given_then (StandLives blocks) (scalar_value value) _ (λ one.
    given_then (StandLives blocks) (number_in one) _ (λ number. switching_lives blocks level.form number level outer bottom))
made_choice_lives false blocks value level outer bottom =
    given_then (StandLives blocks) (truth_of_value blocks value) _ (λ holds. choosing_lives blocks level.form holds level outer bottom)

choice_lives : (blocks : Blocks) (value : CValue) (levels : List CLevel) (bottom : CBottom) → IfGiven (StandLives blocks) (choice_at blocks value levels bottom)
choice_lives blocks value [] bottom = tt
choice_lives blocks value (level ∷ outer) bottom = made_choice_lives (is_switch level.form) blocks value level outer bottom

chose_lives : (state : CState) (place : Place) (outcome : Result CStand CWhy) → IfGiven (StandLives (blocks_of state.world)) outcome → StateLives (blocks_of state.world) (after_choice state place outcome)
chose_lives state place (Ok one) lives = lives
chose_lives state place (Err why) lives = lives_same (blocks_of state.world)

used_lives : (setting : CSetting) (state : CState) (operand : COperand) (purpose : CPurpose) → StateLives (blocks_of state.world) (use_step setting state operand purpose)
used_lives setting state operand (puts_it place one) =
    stored_lives state place one _
    (put_stored_lives setting (frame_for state (puts_it place one)) (blocks_of state.world) one.object one.spot one.type (with_marks no_marks operand))
used_lives setting state operand (drops_it site) = finished_lives state state.world operand (drops_it site)
used_lives setting state operand (turns_on site) = finished_lives state state.world operand (turns_on site)
used_lives setting state operand (gives_it place site) = gave_lives state place site (value_given operand.value)
used_lives setting state operand (chooses_by place site) =
    chose_lives state place (choice_at (blocks_of state.world) operand.value site.levels site.bottom) (choice_lives (blocks_of state.world) operand.value site.levels site.bottom)

-- ---- lives of objects

abbrev GotLives : Blocks → Got Ptr → Type 0
GotLives before got = LivesAgree before (blocks_of got.world)

begun_lives : (is_zero : Bool) (size align : ℕ) (world : World) (outcome : Result Blocks StoreFault) → IfGiven {E = CStop} (GotLives (blocks_of world)) (begun_at is_zero size align world outcome)
begun_lives is_zero size align world (Ok blocks) = lives_made (blocks_of world) (Some (fresh_block is_zero size align))
begun_lives is_zero size align world (Err (Full need left)) = tt
begun_lives is_zero size align world (Err Memory) = tt

object_lives : (is_zero : Bool) (size align : ℕ) (world : World) → IfGiven {E = CStop} (GotLives (blocks_of world)) (object_begun is_zero size align world)
object_lives is_zero size align world = begun_lives is_zero size align world (after_alloc (limit_of world.terms) (blocks_of world) size align)

begins_lives : (setting : CSetting) (place : Place) (number : ℕ) (world : World) → IfGiven (GotLives (blocks_of world)) (object_begins setting place number world)
begins_lives setting place number world =
    given_then (GotLives (blocks_of world)) (as_stop place (shape_of setting number)) _ (λ shape. object_lives false shape.laid.size shape.laid.align world)

began_lives : (setting : CSetting) (state : CState) (one : CBeginning) (outcome : Result (Got Ptr) CStop) → IfGiven (GotLives (blocks_of state.world)) outcome
    → StateLives (blocks_of state.world) (after_begin setting state one outcome)
began_lives setting state one (Ok got) lives =
    lives_then (blocks_of state.world) (blocks_of got.world) _ lives
    (beginning_lives (blocks_of got.world) setting one.others one.goal (with_slot (slot one.object got.value) one.level) one.outer)
began_lives setting state one (Err stop) lives = lives_same (blocks_of state.world)

as_stop_lives : (blocks : Blocks) (place : Place) (outcome : Result CStored CWhy) → IfGiven (StoreLives blocks) outcome → IfGiven (StoreLives blocks) (as_stop place outcome)
as_stop_lives blocks place (Ok one) lives = lives
as_stop_lives blocks place (Err why) lives = tt

argument_lives : (setting : CSetting) (before : Blocks) (place : Place) (number : ℕ) (value : CValue) (got : Got Ptr) → GotLives before got → IfGiven (GotLives before) (argument_stored setting place number value got)
argument_lives setting before place number value got lives =
    given_then (GotLives before) (as_stop place (shape_of setting number)) _ (λ shape.
    given_and (StoreLives (blocks_of got.world)) (GotLives before)
    (as_stop place (stored setting [] (blocks_of got.world) (unqualified shape.type) (designates (Pointer got.value)) value no_marks)) _
    (as_stop_lives (blocks_of got.world) place _ (store_lives setting [] (blocks_of got.world) (unqualified shape.type) (designates (Pointer got.value)) value no_marks))
    (λ one more. lives_then before (blocks_of got.world) one.blocks lives more))

param_lives : (setting : CSetting) (place : Place) (number : ℕ) (value : CValue) (world : World) → IfGiven (GotLives (blocks_of world)) (param_begins setting place number value world)
param_lives setting place number value world =
    given_and (GotLives (blocks_of world)) (GotLives (blocks_of world)) (object_begins setting place number world) _ (begins_lives setting place number world)
    (λ got lives. argument_lives setting (blocks_of world) place number value got lives)

took_lives : (state : CState) (callee : CFun) (number : ℕ) (params : List ℕ) (args : List CValue) (frame : Frame) (outcome : Result (Got Ptr) CStop) → IfGiven (GotLives (blocks_of state.world)) outcome
    → StateLives (blocks_of state.world) (after_param state callee number params args frame outcome)
took_lives state callee number params args frame (Ok got) lives = lives
took_lives state callee number params args frame (Err stop) lives = lives_same (blocks_of state.world)

taken_lives : (setting : CSetting) (state : CState) (callee : CFun) (params : List ℕ) (args : List CValue) (frame : Frame) → StateLives (blocks_of state.world) (take_step setting state callee params args frame)
taken_lives setting state callee [] args frame = lives_same (blocks_of state.world)
taken_lives setting state callee (number ∷ params) [] frame = lives_same (blocks_of state.world)
taken_lives setting state callee (number ∷ params) (value ∷ args) frame =
    took_lives state callee number params args frame _ (param_lives setting (place_of_body callee.body) number value state.world)

-- ---- static objects

static_lives : (setting : CSetting) (one : CObject) (world : World) → IfGiven (GotLives (blocks_of world)) (static_begins setting one world)
static_lives setting one world = given_then (GotLives (blocks_of world)) (as_stop no_place _) _ (λ laid. object_lives true laid.size laid.align world)

begun_static_lives : (setting : CSetting) (state : CState) (one : CObject) (others : List CObject) (outcome : Result (Got Ptr) CStop) → IfGiven (GotLives (blocks_of state.world)) outcome
    → StateLives (blocks_of state.world) (after_static setting state one others outcome)
begun_static_lives setting state one others (Ok got) lives = lives
begun_static_lives setting state one others (Err stop) lives = lives_same (blocks_of state.world)

-- ---- steps

moved_lives : (setting : CSetting) (state : CState) (one : CMove) → StateLives (blocks_of state.world) (move_step setting state one)
moved_lives setting state (values value purpose) = lives_same (blocks_of state.world)
moved_lives setting state (reaches one site) = reached_lives (blocks_of state.world) setting one site
moved_lives setting state (begins one) = began_lives setting state one (object_begins setting no_place one.object state.world) (begins_lives setting no_place one.object state.world)
moved_lives setting state (leaves value site) = returning_lives state value site
moved_lives setting state calls_main = lives_same (blocks_of state.world)
moved_lives setting state (goes_nowhere place) = lives_same (blocks_of state.world)

control_lives : (setting : CSetting) (state : CState) (control : CControl) → StateLives (blocks_of state.world) (step_of setting state control)
control_lives setting state (begins_static one others) = begun_static_lives setting state one others (static_begins setting one state.world) (static_lives setting one state.world)
control_lives setting state (moves one) = moved_lives setting state one
control_lives setting state (evaluates work purpose) = evaluated_lives setting state work purpose
control_lives setting state (uses operand purpose) = used_lives setting state operand purpose
control_lives setting state (takes one) = taken_lives setting state one.callee one.params one.args one.frame
control_lives setting state (has_ended status) = lives_same (blocks_of state.world)
control_lives setting state (has_stopped stop) = lives_same (blocks_of state.world)

-- ---- places outside of every live block

part_outside : (old new : Block) (offset count : ℕ) → size_of new ≡ size_of old → IsFault (part_of old offset count) → IsFault (part_of new offset count)
part_outside old new offset count same is = by_test (nat_le (offset + count) (size_of old)) refl is
  where
    by_test : (fits : Bool) → nat_le (offset + count) (size_of old) ≡ fits → IsFault (if fits then Ok (take count (drop offset old.cells)) else Err Outside) → IsFault (part_of new offset count)
    by_test true e is = absurd is
    by_test false e is = rw (same, e) tt

slot_outside : (old new : Option Block) (offset count : ℕ) → (old ≡ None → new ≡ None) → ((block later : Block) → old ≡ Some block → new ≡ Some later → size_of later ≡ size_of block)
    → IsFault (live_read old (λ block. part_of block offset count)) → IsFault (live_read new (λ block. part_of block offset count))
slot_outside old None offset count dead sizes is = tt
slot_outside None (Some later) offset count dead sizes is = cc (dead refl)
slot_outside (Some block) (Some later) offset count dead sizes is = part_outside block later offset count (sizes block later refl refl) is

still_outside : (before after : Blocks) (at : Ptr) (count : ℕ) → LivesAgree before after → at.block < length before → IsFault (part_at before at count) → IsFault (part_at after at count)
still_outside before after at count lives within is =
    slot_outside (live_block before at.block) (live_block after at.block) at.offset count (λ none. lives.dead at.block within none)
    (λ block later was there. lives.sizes at.block block later was there) is

after_lives : (setting : CSetting) (state : CState) (many : ℕ) → StateLives (blocks_of state.world) (c_after setting many state)
after_lives setting state zero = lives_same (blocks_of state.world)
after_lives setting state (suc many) =
    let now = c_after setting many state in
    lives_then (blocks_of state.world) (blocks_of now.world) (blocks_of (c_step setting now).world) (after_lives setting state many) (control_lives setting now now.control)

pub dead_stays_dead : DeadStaysDead
dead_stays_dead = record {
  step = λ setting state. control_lives setting state state.control;
  steps = λ setting state many. after_lives setting state many;
  outside = λ setting state many at count within is.
      still_outside (blocks_of state.world) (blocks_of (c_after setting many state).world) at count (after_lives setting state many) within is;
}
