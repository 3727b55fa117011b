-- Each step of a program leaves cells that a machine holds, in its memory and in the values that wait.
use Rattle.std.proofs.Common.{◌≡◌, ℕ, zero, suc, Bool, true, false, ℤ, All, List, [], ◌∷◌, length, replicate, Option, Some, None, Result, Ok, Err, subst, arith}
use Rattle.std.proofs.lemmas.List.Elements.{All-replicate}
use Rattle.cr_base.specs.declared.refusal.Place.{Place}
use Rattle.cr_world.specs.Held.{without_block}
use Rattle.cr_world.specs.World.{Got, World, blocks_of, begun_at, limit_of, object_begun}
use Rattle.cx_core.specs.Linked.{main_of, is_main}
use Rattle.cx_core.specs.Trees.{unqualified, CPuts, CObject, CFun}
use Rattle.cx_mean.proofs.KeptNodes.{IfGiven, given_and, given_then, given_sized, IsHeldValue, KeptSince, Kept, store_keeps}
use Rattle.cx_mean.proofs.KeptSteps.{literal_keeps, put_keeps}
use Rattle.cx_mean.specs.Accesses.{CStored, sized, stored}
use Rattle.cx_mean.specs.Calls.{CCallee, defined, external, CCalled, returns_value, ends_with, COutcome, external_call}
use Rattle.cx_mean.specs.Initialisers.{CCleared, object_cleared}
use Rattle.cx_mean.specs.Marks.{no_marks, bits_of_bytes, with_write, at_sequence_point}
use Rattle.cx_mean.specs.Moves.{CPutting, CPurpose, puts_it, drops_it, turns_on, gives_it, chooses_by, CBeginning, CMove, values, reaches, begins, leaves, calls_main, goes_nowhere, CStand, slots_of_site, static_puts, putting, is_switch}
use Rattle.cx_mean.specs.Nodes.{CDone, truth_of_value}
use Rattle.cx_mean.specs.Operands.{CWhy, CStop, needed, CValue, scalar, cells, names, designates, designates_bits, missing, COperand, with_marks, Frame, slot_of, scalar_value}
use Rattle.cx_mean.specs.Paths.{CLevel, CBottom, CSite}
use Rattle.cx_mean.specs.Run.{c_start, c_after}
use Rattle.cx_mean.specs.Settings.{CSetting, setting_of}
use Rattle.cx_mean.specs.State.{CCaller, CControl, begins_static, moves, evaluates, uses, takes, has_ended, has_stopped, CState, evaluating, control_of, at_stand, finished_for, going_on, value_at_end, taking, values_of_args, answered_by, calling, ended_by, status_in, given_back, returned_to, after_return, returning, frame_for, after_step, expression_step, after_store, value_given, after_give, choice_made, choice_at, after_choice, use_step, shape_of, as_stop, object_begins, with_slot, slot, after_begin, param_begins, after_param, place_of_body, take_step, statics_in, beginning_statics, static_begins, after_static, no_place, main_called, move_step, step_of, c_step}
use Rattle.cx_mean.specs.Steps.{did, asks_call, CStepped, step_at, picked}
use Rattle.cx_mean.specs.Values.{number_in}
use Rattle.cx_mean.specs.Work.{CWork, finished, needs, chooses, tests, carries, updates, fills, waits, begun, resumed, ready}
use Rattle.mem_bytes.specs.Access.{and_then}
use Rattle.mem_bytes.specs.Counted.{after_alloc}
use Rattle.mem_bytes.specs.declared.cell.Cell.{Cell}
use Rattle.mem_bytes.specs.declared.fault.StoreFault.{StoreFault}
use Rattle.mem_bytes.specs.declared.fault.StoreFault.TheVariants.{Full, Memory}
use Rattle.mem_bytes.specs.declared.value.Ptr.{Ptr}
use Rattle.mem_bytes.specs.declared.value.Value.TheVariants.{Object as Pointer}
use Rattle.mem_bytes.specs.Laws.{IsHeld, HoldsCells}
use Rattle.mem_bytes.specs.Memory.{Block, Blocks, live_block, size_of, unset_cell}
use Rattle.cx_stays.proofs.CallLeaves.{OutcomeLeaves, outside_leaves}
use Rattle.cx_stays.proofs.HeldMoves.{IsHeldSite, IsHeldPurpose, IsHeldMove}
use Rattle.cx_stays.proofs.HeldSteps.{step_kept}
use Rattle.cx_stays.proofs.HeldTrees.{AllHeld, IsHeldWork, keeps_all, begun_held, StepKept}
use Rattle.cx_stays.proofs.Leaves.{held_set, held_killed, leaves_made}
use Rattle.cx_stays.proofs.Resumed.{resumed_held}
use Rattle.cx_stays.proofs.Stands.{statics_held, Stands, Cleared, without_stands, next_stands, putting_stands, beginning_stands, reached_stands, choosing_stands, switching_stands, turning_on_stands}
use Rattle.cx_stays.specs.Stays.{RunsHoldCells}

-- ---- states

abbrev AreHeldValues : List CValue → Type 0
AreHeldValues [] = Unit {0}
AreHeldValues (first ∷ others) = IsHeldValue first × AreHeldValues others

abbrev IsHeldControl : CControl → Type 0
IsHeldControl (begins_static one others) = Unit {0}
IsHeldControl (moves one) = IsHeldMove one
IsHeldControl (evaluates work purpose) = IsHeldWork work × IsHeldPurpose purpose
IsHeldControl (uses operand purpose) = IsHeldValue operand.value × IsHeldPurpose purpose
IsHeldControl (takes one) = AreHeldValues one.args
IsHeldControl (has_ended status) = Unit {0}
IsHeldControl (has_stopped stop) = Unit {0}

abbrev AreHeldCallers : List CCaller → Type 0
AreHeldCallers [] = Unit {0}
AreHeldCallers (first ∷ others) = IsHeldWork first.work × IsHeldPurpose first.purpose × AreHeldCallers others

record IsHeldState (state : CState) : Type 0 where
  memory : HoldsCells (blocks_of state.world)
  control : IsHeldControl state.control
  callers : AreHeldCallers state.callers

-- ---- objects that die, and one that is made anew

dies : (blocks : Blocks) (number : ℕ) → HoldsCells blocks → HoldsCells (without_block number blocks)
dies blocks number held = held_killed blocks number held

of_literal : (blocks : Blocks) (number : ℕ) (outcome : Result CCleared CWhy)
    → IfGiven (λ (one : CDone). Kept [] blocks one.marks one.blocks)
    (and_then outcome (λ one. Ok (record { value = names number; marks = at_sequence_point (with_write (bits_of_bytes one.at one.size) no_marks); blocks = one.blocks })))
    → IfGiven (Cleared HoldsCells) outcome
of_literal blocks number (Ok one) is = is.held
of_literal blocks number (Err why) is = tt

clears : (setting : CSetting) (frame : Frame) (number : ℕ) (puts : Option CPuts) (blocks : Blocks) → HoldsCells blocks → IfGiven (Cleared HoldsCells) (object_cleared setting frame number puts blocks)
clears setting frame number (Some puts) blocks held =
    of_literal blocks number (object_cleared setting frame number (Some puts) blocks) (literal_keeps setting frame blocks number puts held)
clears setting frame number None blocks held =
    given_then (Cleared HoldsCells) (needed (slot_of frame number)) _ (λ at.
    given_then (Cleared HoldsCells) (needed (live_block blocks at.block)) _ (λ block.
    given_and (λ (found : List Cell). All IsHeld found × (length found ≡ size_of block)) (Cleared HoldsCells) (sized (size_of block) (replicate (size_of block) unset_cell)) _
    (given_sized (size_of block) (replicate (size_of block) unset_cell) (All-replicate IsHeld (size_of block) unset_cell (omega arith, omega arith))) (λ new is.
    held_set blocks at.block (Some (record block { cells = new }))
    (λ one same. let one_is : record block { cells = new } ≡ one = cc (same) in subst (λ (it : Block). All IsHeld it.cells) one_is is.0) held)))

-- ---- what is next

evaluating_held : (work : CWork) (purpose : CPurpose) → IsHeldWork work → IsHeldPurpose purpose → IsHeldControl (evaluating work purpose)
evaluating_held (finished operand) purpose is fits = (is, fits)
evaluating_held (needs node operands) purpose is fits = (is, fits)
evaluating_held (chooses node first) purpose is fits = (is, fits)
evaluating_held (tests node marks second) purpose is fits = (is, fits)
evaluating_held (carries node marks part) purpose is fits = (is, fits)
evaluating_held (updates node update stage marks) purpose is fits = (is, fits)
evaluating_held (fills node marks one others value) purpose is fits = (is, fits)
evaluating_held (waits node marks) purpose is fits = (is, fits)

move_held : (one : CMove) → IsHeldMove one → IsHeldControl (control_of one)
move_held (values value purpose) is = evaluating_held (begun value) purpose (begun_held value) is
move_held (reaches one site) is = is
move_held (begins one) is = is
move_held (leaves value site) is = is
move_held calls_main is = tt
move_held (goes_nowhere place) is = tt

stand_held : (state : CState) (world : World) (at_end : CValue) (one : CStand) → Stands HoldsCells at_end one → IsHeldValue at_end → AreHeldCallers state.callers → IsHeldState (at_stand state world one)
stand_held state world at_end one stands is callers = record { memory = stands.0; control = move_held one.move (stands.1 is); callers = callers }

finished_held : (state : CState) (world : World) (operand : COperand) (purpose : CPurpose) → HoldsCells (blocks_of world) → IsHeldValue operand.value → IsHeldPurpose purpose → AreHeldCallers state.callers
    → IsHeldState (finished_for state world operand purpose)
finished_held state world operand (drops_it site) held is fits callers =
    stand_held state world site.bottom.at_end _ (next_stands HoldsCells dies clears site.levels site.bottom (blocks_of world) held) fits callers
finished_held state world operand (turns_on site) held is fits callers =
    stand_held state world site.bottom.at_end _ (turning_on_stands HoldsCells dies clears site (blocks_of world) held) fits callers
finished_held state world operand (puts_it place one) held is fits callers = record { memory = held; control = (is, fits); callers = callers }
finished_held state world operand (gives_it place site) held is fits callers = record { memory = held; control = (is, fits); callers = callers }
finished_held state world operand (chooses_by place site) held is fits callers = record { memory = held; control = (is, fits); callers = callers }

going_held : (state : CState) (world : World) (work : CWork) (purpose : CPurpose) → HoldsCells (blocks_of world) → IsHeldWork work → IsHeldPurpose purpose → AreHeldCallers state.callers
    → IsHeldState (going_on state world work purpose)
going_held state world (finished operand) purpose held is fits callers = finished_held state world operand purpose held is fits callers
going_held state world (needs node operands) purpose held is fits callers = record { memory = held; control = (is, fits); callers = callers }
going_held state world (chooses node first) purpose held is fits callers = record { memory = held; control = (is, fits); callers = callers }
going_held state world (tests node marks second) purpose held is fits callers = record { memory = held; control = (is, fits); callers = callers }
going_held state world (carries node marks part) purpose held is fits callers = record { memory = held; control = (is, fits); callers = callers }
going_held state world (updates node update stage marks) purpose held is fits callers = record { memory = held; control = (is, fits); callers = callers }
going_held state world (fills node marks one others value) purpose held is fits callers = record { memory = held; control = (is, fits); callers = callers }
going_held state world (waits node marks) purpose held is fits callers = record { memory = held; control = (is, fits); callers = callers }

-- ---- calls and returns

end_held : (is_first : Bool) → IsHeldValue (value_at_end is_first)
end_held true = tt
end_held false = tt

taking_held : (one : CFun) (params : List ℕ) (args : List CValue) (frame : Frame) → AreHeldValues args → IsHeldControl (taking one params args frame)
taking_held one [] args frame are = end_held (is_main one)
taking_held one (first ∷ others) args frame are = are

args_held : (args : List COperand) → AllHeld args → AreHeldValues (values_of_args args)
args_held [] are = tt
args_held (first ∷ others) are = (are.0, args_held others are.1)

answered_held : (state : CState) (work : CWork) (purpose : CPurpose) (outcome : COutcome) → OutcomeLeaves state.world outcome → IsHeldWork work → IsHeldPurpose purpose → HoldsCells (blocks_of state.world)
    → AreHeldCallers state.callers → IsHeldState (answered_by state work purpose outcome)
answered_held state work purpose (Ok (returns_value value world)) left is fits held callers =
    going_held state world (resumed value work) purpose (left.1.held held) (resumed_held value left.0 work is) fits callers
answered_held state work purpose (Ok (ends_with status world)) left is fits held callers = record { memory = left.held held; control = tt; callers = callers }
answered_held state work purpose (Err stop) left is fits held callers = record { memory = held; control = tt; callers = callers }

calling_held : (setting : CSetting) (state : CState) (work : CWork) (purpose : CPurpose) (called : CCalled) (callee : CCallee) → AllHeld called.args → IsHeldWork work → IsHeldPurpose purpose → HoldsCells (blocks_of state.world)
    → AreHeldCallers state.callers → IsHeldState (calling setting state work purpose called callee)
calling_held setting state work purpose called (defined one) are is fits held callers =
    record { memory = held; control = taking_held one one.params (values_of_args called.args) [] (args_held called.args are); callers = (is, fits, callers) }
calling_held setting state work purpose called (external one) are is fits held callers =
    answered_held state work purpose (external_call setting called one state.world) (outside_leaves setting called one state.world) is fits held callers

back_held : (value : CValue) → IsHeldValue value → IsHeldValue (given_back value)
back_held (cells held from) is = is
back_held value is = is

ended_held : (state : CState) (world : World) (status : Result ℤ CWhy) → HoldsCells (blocks_of world) → AreHeldCallers state.callers → IsHeldState (ended_by state world status)
ended_held state world (Ok status) held callers = record { memory = held; control = tt; callers = callers }
ended_held state world (Err why) held callers = record { memory = held; control = tt; callers = callers }

returned_held : (state : CState) (world : World) (value : CValue) (waiting : List CCaller) → HoldsCells (blocks_of world) → IsHeldValue value → AreHeldCallers state.callers → AreHeldCallers waiting
    → IsHeldState (returned_to state world value waiting)
returned_held state world value [] held is callers are = ended_held state world (status_in value) held callers
returned_held state world value (caller ∷ others) held is callers are =
    going_held (record state { callers = others }) world (resumed value caller.work) caller.purpose held (resumed_held value is caller.work are.0) are.1 are.2

returning_held : (state : CState) (value : CValue) (site : CSite) → HoldsCells (blocks_of state.world) → IsHeldValue value → AreHeldCallers state.callers → IsHeldState (returning state value site)
returning_held state value site held is callers =
    returned_held state (after_return site state.world) (given_back value) state.callers
    (without_stands HoldsCells dies clears (slots_of_site site) (blocks_of state.world) held) (back_held value is) callers callers

-- ---- steps of full expressions

stepped_held : (setting : CSetting) (state : CState) (purpose : CPurpose) (written : _) (outcome : CStepped) → StepKept written (blocks_of state.world) outcome → IsHeldPurpose purpose → HoldsCells (blocks_of state.world)
    → AreHeldCallers state.callers → IsHeldState (after_step setting state purpose outcome)
stepped_held setting state purpose written (Ok (did work blocks)) kept fits held callers = going_held state _ work purpose kept.held kept.work_is fits callers
stepped_held setting state purpose written (Ok (asks_call called work)) kept fits held callers = calling_held setting state work purpose called called.callee kept.args kept.work_is fits held callers
stepped_held setting state purpose written (Err fault) kept fits held callers = record { memory = held; control = tt; callers = callers }

evaluated_held : (setting : CSetting) (state : CState) (work : CWork) (purpose : CPurpose) → IsHeldWork work → IsHeldPurpose purpose → HoldsCells (blocks_of state.world) → AreHeldCallers state.callers
    → IsHeldState (expression_step setting state work purpose)
evaluated_held setting state work purpose is fits held callers =
    let one = picked state.order (ready work) in
    stepped_held setting (record state { order = one.order }) purpose _ (step_at setting (frame_for state purpose) (blocks_of state.world) one.pick work)
    (step_kept setting (frame_for state purpose) (blocks_of state.world) held work one.pick is) fits held callers

-- ---- uses of finished values

-- a store leaves them where the value that is stored has them
abbrev StoreHeld : CStored → Type 0
StoreHeld one = HoldsCells one.blocks

unwritten : (blocks : Blocks) → HoldsCells blocks → Kept [] blocks no_marks blocks
unwritten blocks held = record { stays = keeps_all [] blocks; covers = λ range avoids. avoids; held = held }

store_held : (setting : CSetting) (frame : Frame) (blocks : Blocks) (type : _) (place new : CValue) → IsHeldValue new → HoldsCells blocks → IfGiven StoreHeld (stored setting frame blocks type place new no_marks)
store_held setting frame blocks type place new is held = kept_held (stored setting frame blocks type place new no_marks) (store_keeps setting frame [] blocks blocks type place new no_marks is (unwritten blocks held))
  where
    kept_held : (outcome : Result CStored CWhy) → IfGiven (λ (one : CStored). KeptSince [] blocks one.value one.marks one.blocks) outcome → IfGiven StoreHeld outcome
    kept_held (Ok one) kept = kept.held
    kept_held (Err why) kept = tt

stored_held : (state : CState) (place : Place) (one : CPutting) (outcome : Result CStored CWhy) → IfGiven (λ (done : CStored). KeptSince [] (blocks_of state.world) done.value done.marks done.blocks) outcome → IsHeldPurpose (puts_it place one)
    → HoldsCells (blocks_of state.world) → AreHeldCallers state.callers → IsHeldState (after_store state place one outcome)
stored_held state place one (Ok done) kept fits held callers =
    let stands = putting_stands HoldsCells dies clears one.object one.others one.behind done.blocks kept.held in
    record { memory = stands.0; control = move_held (putting one.object one.others one.behind done.blocks).move (stands.1 fits); callers = callers }
stored_held state place one (Err why) kept fits held callers = record { memory = held; control = tt; callers = callers }

given_value_held : (value : CValue) → IsHeldValue value → IfGiven IsHeldValue (value_given value)
given_value_held missing is = tt
given_value_held (scalar value) is = tt
given_value_held (cells held from) is = is
given_value_held (names number) is = tt
given_value_held (designates to) is = tt
given_value_held (designates_bits at bit width) is = tt

gave_held : (state : CState) (place : Place) (site : CSite) (outcome : Result CValue CWhy) → IfGiven IsHeldValue outcome → HoldsCells (blocks_of state.world) → AreHeldCallers state.callers → IsHeldState (after_give state place site outcome)
gave_held state place site (Ok value) is held callers = returning_held state value site held is callers
gave_held state place site (Err why) is held callers = record { memory = held; control = tt; callers = callers }

made_choice_held : (chooses_one : Bool) (blocks : Blocks) (value : CValue) (level : CLevel) (outer : List CLevel) (bottom : CBottom) → HoldsCells blocks
    → IfGiven (Stands HoldsCells bottom.at_end) (choice_made chooses_one blocks value level outer bottom)
made_choice_held true blocks value level outer bottom held =
    given_then (Stands HoldsCells bottom.at_end) (scalar_value value) _ (λ one.
    given_then (Stands HoldsCells bottom.at_end) (number_in one) _ (λ number. switching_stands HoldsCells dies clears level.form number level outer bottom blocks held))
made_choice_held false blocks value level outer bottom held =
    given_then (Stands HoldsCells bottom.at_end) (truth_of_value blocks value) _ (λ holds. choosing_stands HoldsCells dies clears level.form holds level outer bottom blocks held)

choice_held : (blocks : Blocks) (value : CValue) (levels : List CLevel) (bottom : CBottom) → HoldsCells blocks → IfGiven (Stands HoldsCells bottom.at_end) (choice_at blocks value levels bottom)
choice_held blocks value [] bottom held = tt
choice_held blocks value (level ∷ outer) bottom held = made_choice_held (is_switch level.form) blocks value level outer bottom held

chose_held : (state : CState) (place : Place) (at_end : CValue) (outcome : Result CStand CWhy) → IfGiven (Stands HoldsCells at_end) outcome → IsHeldValue at_end → HoldsCells (blocks_of state.world) → AreHeldCallers state.callers
    → IsHeldState (after_choice state place outcome)
chose_held state place at_end (Ok one) stands is held callers = stand_held state state.world at_end one stands is callers
chose_held state place at_end (Err why) stands is held callers = record { memory = held; control = tt; callers = callers }

used_held : (setting : CSetting) (state : CState) (operand : COperand) (purpose : CPurpose) → IsHeldValue operand.value → IsHeldPurpose purpose → HoldsCells (blocks_of state.world) → AreHeldCallers state.callers
    → IsHeldState (use_step setting state operand purpose)
used_held setting state operand (puts_it place one) is fits held callers =
    stored_held state place one _
    (put_keeps setting (frame_for state (puts_it place one)) [] (blocks_of state.world) (blocks_of state.world) one.object one.spot one.type (with_marks no_marks operand) (unwritten (blocks_of state.world) held) is)
    fits held callers
used_held setting state operand (drops_it site) is fits held callers = finished_held state state.world operand (drops_it site) held is fits callers
used_held setting state operand (turns_on site) is fits held callers = finished_held state state.world operand (turns_on site) held is fits callers
used_held setting state operand (gives_it place site) is fits held callers = gave_held state place site (value_given operand.value) (given_value_held operand.value is) held callers
used_held setting state operand (chooses_by place site) is fits held callers =
    chose_held state place site.bottom.at_end (choice_at (blocks_of state.world) operand.value site.levels site.bottom) (choice_held (blocks_of state.world) operand.value site.levels site.bottom held) fits held callers

-- ---- lives of objects

abbrev GotHeld : Got Ptr → Type 0
GotHeld got = HoldsCells (blocks_of got.world)

begun_at_held : (is_zero : Bool) (size align : ℕ) (world : World) (outcome : Result Blocks StoreFault) → HoldsCells (blocks_of world) → IfGiven {E = CStop} GotHeld (begun_at is_zero size align world outcome)
begun_at_held is_zero size align world (Ok blocks) held = (leaves_made (blocks_of world) is_zero size align).held held
begun_at_held is_zero size align world (Err (Full need left)) held = tt
begun_at_held is_zero size align world (Err Memory) held = tt

object_held : (is_zero : Bool) (size align : ℕ) (world : World) → HoldsCells (blocks_of world) → IfGiven {E = CStop} GotHeld (object_begun is_zero size align world)
object_held is_zero size align world held = begun_at_held is_zero size align world (after_alloc (limit_of world.terms) (blocks_of world) size align) held

begins_held : (setting : CSetting) (place : Place) (number : ℕ) (world : World) → HoldsCells (blocks_of world) → IfGiven GotHeld (object_begins setting place number world)
begins_held setting place number world held =
    given_then GotHeld (as_stop place (shape_of setting number)) _ (λ shape. object_held false shape.laid.size shape.laid.align world held)

began_held : (setting : CSetting) (state : CState) (one : CBeginning) (outcome : Result (Got Ptr) CStop) → IfGiven GotHeld outcome → IsHeldSite one.outer → HoldsCells (blocks_of state.world) → AreHeldCallers state.callers
    → IsHeldState (after_begin setting state one outcome)
began_held setting state one (Ok got) got_held is held callers =
    stand_held state got.world one.outer.bottom.at_end _
    (beginning_stands HoldsCells dies clears setting one.others one.goal (with_slot (slot one.object got.value) one.level) one.outer (blocks_of got.world) got_held) is callers
began_held setting state one (Err stop) got_held is held callers = record { memory = held; control = tt; callers = callers }

stop_held : (place : Place) (outcome : Result CStored CWhy) → IfGiven StoreHeld outcome → IfGiven StoreHeld (as_stop place outcome)
stop_held place (Ok one) is = is
stop_held place (Err why) is = tt

param_held : (setting : CSetting) (place : Place) (number : ℕ) (value : CValue) (world : World) → IsHeldValue value → HoldsCells (blocks_of world) → IfGiven GotHeld (param_begins setting place number value world)
param_held setting place number value world is held =
    given_and GotHeld GotHeld (object_begins setting place number world) _ (begins_held setting place number world held) (λ got got_held.
    given_then GotHeld (as_stop place (shape_of setting number)) _ (λ shape.
    given_and StoreHeld GotHeld (as_stop place (stored setting [] (blocks_of got.world) (unqualified shape.type) (designates (Pointer got.value)) value no_marks)) _
    (stop_held place _ (store_held setting [] (blocks_of got.world) (unqualified shape.type) (designates (Pointer got.value)) value is got_held)) (λ one one_held. one_held)))

took_held : (state : CState) (callee : CFun) (number : ℕ) (params : List ℕ) (args : List CValue) (frame : Frame) (outcome : Result (Got Ptr) CStop) → IfGiven GotHeld outcome → AreHeldValues args → HoldsCells (blocks_of state.world)
    → AreHeldCallers state.callers → IsHeldState (after_param state callee number params args frame outcome)
took_held state callee number params args frame (Ok got) got_held are held callers = record { memory = got_held; control = taking_held callee params args _ are; callers = callers }
took_held state callee number params args frame (Err stop) got_held are held callers = record { memory = held; control = tt; callers = callers }

taken_held : (setting : CSetting) (state : CState) (callee : CFun) (params : List ℕ) (args : List CValue) (frame : Frame) → AreHeldValues args → HoldsCells (blocks_of state.world) → AreHeldCallers state.callers
    → IsHeldState (take_step setting state callee params args frame)
taken_held setting state callee [] args frame are held callers = record { memory = held; control = tt; callers = callers }
taken_held setting state callee (number ∷ params) [] frame are held callers = record { memory = held; control = tt; callers = callers }
taken_held setting state callee (number ∷ params) (value ∷ args) frame are held callers =
    took_held state callee number params args frame _ (param_held setting (place_of_body callee.body) number value state.world are.0 held) are.1 held callers

-- ---- static objects

static_held : (setting : CSetting) (one : CObject) (world : World) → HoldsCells (blocks_of world) → IfGiven GotHeld (static_begins setting one world)
static_held setting one world held = given_then GotHeld (as_stop no_place _) _ (λ laid. object_held true laid.size laid.align world held)

statics_begin_held : (others all : List CObject) → IsHeldControl (beginning_statics others all)
statics_begin_held [] all = move_held (static_puts all) (statics_held all)
statics_begin_held (one ∷ others) all = tt

begun_static_held : (setting : CSetting) (state : CState) (one : CObject) (others : List CObject) (outcome : Result (Got Ptr) CStop) → IfGiven GotHeld outcome → HoldsCells (blocks_of state.world) → AreHeldCallers state.callers
    → IsHeldState (after_static setting state one others outcome)
begun_static_held setting state one others (Ok got) got_held held callers = record { memory = got_held; control = statics_begin_held others (statics_in setting.program.objects); callers = callers }
begun_static_held setting state one others (Err stop) got_held held callers = record { memory = held; control = tt; callers = callers }

-- ---- steps

main_held : (found : Option CFun) → IsHeldControl (main_called found)
main_held None = tt
main_held (Some one) = taking_held one one.params [] [] tt

moved_held : (setting : CSetting) (state : CState) (one : CMove) → IsHeldMove one → HoldsCells (blocks_of state.world) → AreHeldCallers state.callers → IsHeldState (move_step setting state one)
moved_held setting state (values value purpose) is held callers = record { memory = held; control = evaluating_held (begun value) purpose (begun_held value) is; callers = callers }
moved_held setting state (reaches one site) is held callers =
    stand_held state state.world site.bottom.at_end _ (reached_stands HoldsCells dies clears setting one site (blocks_of state.world) held) is callers
moved_held setting state (begins one) is held callers =
    began_held setting state one (object_begins setting no_place one.object state.world) (begins_held setting no_place one.object state.world held) is held callers
moved_held setting state (leaves value site) is held callers = returning_held state value site held is callers
moved_held setting state calls_main is held callers = record { memory = held; control = main_held (main_of setting.program); callers = callers }
moved_held setting state (goes_nowhere place) is held callers = record { memory = held; control = tt; callers = callers }

control_held : (setting : CSetting) (state : CState) (control : CControl) → IsHeldControl control → HoldsCells (blocks_of state.world) → AreHeldCallers state.callers → IsHeldState state → IsHeldState (step_of setting state control)
control_held setting state (begins_static one others) is held callers same =
    begun_static_held setting state one others (static_begins setting one state.world) (static_held setting one state.world held) held callers
control_held setting state (moves one) is held callers same = moved_held setting state one is held callers
control_held setting state (evaluates work purpose) is held callers same = evaluated_held setting state work purpose is.0 is.1 held callers
control_held setting state (uses operand purpose) is held callers same = used_held setting state operand purpose is.0 is.1 held callers
control_held setting state (takes one) is held callers same = taken_held setting state one.callee one.params one.args one.frame is held callers
control_held setting state (has_ended status) is held callers same = same
control_held setting state (has_stopped stop) is held callers same = same

state_held : (setting : CSetting) (state : CState) → IsHeldState state → IsHeldState (c_step setting state)
state_held setting state is = control_held setting state state.control is.control is.memory is.callers is

run_held : (setting : CSetting) (state : CState) (steps : ℕ) → IsHeldState state → IsHeldState (c_after setting steps state)
run_held setting state zero is = is
run_held setting state (suc steps) is = state_held setting (c_after setting steps state) (run_held setting state steps is)

pub runs_hold_cells : RunsHoldCells
runs_hold_cells program order terms outside steps =
    (run_held (setting_of program) (c_start program order terms outside) steps
    (record { memory = λ number block live. cc (live); control = statics_begin_held (statics_in program.objects) (statics_in program.objects); callers = tt })).memory
