-- Each step of a program under a set of blocks that has all that its state names or points to: it leads nowhere else, and the blocks that
-- the set leaves out are as they were (ISO C99, 6.2.4 and 6.5p2).
use Rattle.std.proofs.Common.{◌≡◌, ℕ, zero, suc, Bool, true, false, ℤ, List, [], ◌∷◌, length, Option, Some, None, Result, Ok, Err, subst, arith}
use Rattle.cr_base.specs.declared.refusal.Place.{Place}
use Rattle.cr_world.specs.World.{Got, World, blocks_of, begun_at, limit_of, object_begun}
use Rattle.cx_core.specs.Linked.{main_of, is_main}
use Rattle.cx_core.specs.Trees.{unqualified, CExpr, CObject, CFun, COuter}
use Rattle.cx_mean.proofs.KeptNodes.{IfGiven, given_and, given_then}
use Rattle.cx_mean.specs.Accesses.{CStored, stored}
use Rattle.cx_mean.specs.Calls.{CCallee, defined, external, CCalled, returns_value, ends_with, COutcome, external_call}
use Rattle.cx_mean.specs.Marks.{no_marks}
use Rattle.cx_mean.specs.Moves.{CBehind, in_body, of_statics, CPutting, CPurpose, puts_it, drops_it, turns_on, gives_it, chooses_by, CBeginning, CMove, values, reaches, begins, leaves, calls_main, goes_nowhere, CStand, slots_of_site, static_puts, is_switch}
use Rattle.cx_mean.specs.Nodes.{truth_of_value}
use Rattle.cx_mean.specs.Operands.{CWhy, CFault, CStop, CValue, scalar, cells, names, designates, designates_bits, missing, COperand, with_marks, Frame, scalar_value}
use Rattle.cx_mean.specs.Paths.{CLevel, CBottom, CSite}
use Rattle.cx_mean.specs.Run.{c_after}
use Rattle.cx_mean.specs.Settings.{CSetting}
use Rattle.cx_mean.specs.State.{CCaller, CControl, begins_static, moves, evaluates, uses, takes, has_ended, has_stopped, CState, evaluating, control_of, at_stand, finished_for, going_on, value_at_end, taking, values_of_args, answered_by, calling, ended_by, status_in, given_back, returned_to, after_return, returning, site_behind, own_frame, frame_for, after_step, expression_step, after_store, value_given, after_give, choice_made, choice_at, after_choice, use_step, shape_of, as_stop, object_begins, with_slot, slot, after_begin, param_begins, after_param, place_of_body, take_step, statics_in, beginning_statics, static_begins, after_static, no_place, main_called, move_step, step_of, c_step}
use Rattle.cx_mean.specs.Steps.{did, asks_call, CStepped, step_at, picked}
use Rattle.cx_mean.specs.Values.{number_in}
use Rattle.cx_mean.specs.Work.{CWork, finished, needs, chooses, tests, carries, updates, fills, waits, begun, resumed, ready}
use Rattle.mem_bytes.specs.Counted.{after_alloc}
use Rattle.mem_bytes.specs.declared.fault.StoreFault.{StoreFault}
use Rattle.mem_bytes.specs.declared.fault.StoreFault.TheVariants.{Full, Memory}
use Rattle.mem_bytes.specs.declared.value.Ptr.{Ptr}
use Rattle.mem_bytes.specs.declared.value.Value.TheVariants.{Object as Pointer}
use Rattle.mem_bytes.specs.Memory.{Blocks}
use Rattle.cx_stays.proofs.ReachCalls.{OutcomeWithin, outside_within}
use Rattle.cx_stays.proofs.ReachMemory.{Left, left_same, left_then, left_made, stays_same, stays_then, loads_alike}
use Rattle.cx_stays.proofs.ReachMoves.{StandWithin, names_any, slots_append, slots_live, site_slots, statics_within, without_within, next_within, putting_within, beginning_within, reached_within, choosing_within, switching_within, turning_on_within}
use Rattle.cx_stays.proofs.ReachNodes.{DidWithin, begun_within}
use Rattle.cx_stays.proofs.ReachSteps.{resumed_within, step_within}
use Rattle.cx_stays.proofs.ReachStores.{StoreGives, store_left, put_stored_left}
use Rattle.cx_stays.specs.Reach.{GivesWithin, AreOperandsWithin, AreValuesWithin, NamesOnly, IsWorkWithin, IsClosedIn, StaysOutside, AnyObject, NoObject, AreSlotsWithin, AreLevelsWithin, IsBottomWithin, IsSiteWithin, IsBehindWithin, IsPurposeWithin, IsMoveWithin, IsControlWithin, AreCallersWithin, IsReachedSet, LivesWithin, UnreachedStays}
use Rattle.cx_stays.specs.Stays.{EvaluatesIn}

-- a state since an earlier memory: all that it names or points to is in the set, beside what is asked of the functions that wait, and the
-- blocks that the set leaves out are as they were
pub record StateLeft (reached : ℕ → Bool) (Fits : List CCaller → Type 0) (before : Blocks) (state : CState) : Type 0 where
  pub left : Left reached before (blocks_of state.world)
  pub statics : AreSlotsWithin reached state.statics
  pub control : IsControlWithin reached state.control
  pub callers : Fits state.callers

-- what a step leaves: such a state; or the function that runs returns, with a value that leads within the set
pub data StepLeft (reached : ℕ → Bool) (Fits : List CCaller → Type 0) (state : CState) : CState → Type 0 where
  goes : {next : CState} → StateLeft reached Fits (blocks_of state.world) next → StepLeft reached Fits state next
  gives_back : (world : World) (value : CValue) → GivesWithin reached NoObject value → Left reached (blocks_of state.world) (blocks_of world) →
      StepLeft reached Fits state (returned_to state world value state.callers)

module _ (reached : ℕ → Bool) where
  -- ---- what is next

  evaluating_within : (work : CWork) (purpose : CPurpose) → IsWorkWithin reached AnyObject work → IsPurposeWithin reached purpose → IsControlWithin reached (evaluating work purpose)
  evaluating_within (finished operand) purpose is fits = (is, fits)
  evaluating_within (needs node operands) purpose is fits = (is, fits)
  evaluating_within (chooses node first) purpose is fits = (is, fits)
  evaluating_within (tests node marks second) purpose is fits = (is, fits)
  evaluating_within (carries node marks part) purpose is fits = (is, fits)
  evaluating_within (updates node update stage marks) purpose is fits = (is, fits)
  evaluating_within (fills node marks one others value) purpose is fits = (is, fits)
  evaluating_within (waits node marks) purpose is fits = (is, fits)

  expression_within : (e : CExpr) → IsWorkWithin reached AnyObject (begun e)
  expression_within e = begun_within reached AnyObject e (names_any e)

  move_within : (one : CMove) → IsMoveWithin reached one → IsControlWithin reached (control_of one)
  move_within (values value purpose) is = evaluating_within (begun value) purpose (expression_within value) is
  move_within (reaches one site) is = is
  move_within (begins one) is = is
  move_within (leaves value site) is = is
  move_within calls_main is = tt
  move_within (goes_nowhere place) is = tt

  end_gives : (is_first : Bool) → GivesWithin reached NoObject (value_at_end is_first)
  end_gives true = tt
  end_gives false = tt

  pub taking_within : (one : CFun) (params : List ℕ) (args : List CValue) (frame : Frame) → AreValuesWithin reached AnyObject args → AreSlotsWithin reached frame → IsControlWithin reached (taking one params args frame)
  taking_within one [] args frame are slots = (tt, (slots, end_gives (is_main one)))
  taking_within one (first ∷ others) args frame are slots = (are, slots)

  pub args_within : (args : List COperand) → AreOperandsWithin reached AnyObject args → AreValuesWithin reached AnyObject (values_of_args args)
  args_within [] are = tt
  args_within (first ∷ others) are = (are.0, args_within others are.1)

  back_gives : (value : CValue) → GivesWithin reached NoObject value → GivesWithin reached NoObject (given_back value)
  back_gives (cells held from) gives = (gives.0, tt)
  back_gives (scalar value) gives = gives
  back_gives (names number) gives = gives
  back_gives (designates to) gives = gives
  back_gives (designates_bits at bit width) gives = gives
  back_gives missing gives = gives

  -- what names no object leads within the set, whatever may be named
  pub gives_any : (Named : ℕ → Type 0) (value : CValue) → GivesWithin reached NoObject value → GivesWithin reached Named value
  gives_any Named (cells held from) gives = gives
  gives_any Named (scalar value) gives = gives
  gives_any Named (names number) gives = absurd gives
  gives_any Named (designates to) gives = gives
  gives_any Named (designates_bits at bit width) gives = gives
  gives_any Named missing gives = gives

  behind_slots : (behind : CBehind) → IsBehindWithin reached behind → AreSlotsWithin reached (site_behind behind)
  behind_slots (in_body site) is = site_slots reached site is
  behind_slots (of_statics others) is = tt

  own_slots : (purpose : CPurpose) → IsPurposeWithin reached purpose → AreSlotsWithin reached (own_frame purpose)
  own_slots (puts_it place one) is = behind_slots one.behind is
  own_slots (drops_it site) is = site_slots reached site is
  own_slots (turns_on site) is = site_slots reached site is
  own_slots (gives_it place site) is = site_slots reached site is
  own_slots (chooses_by place site) is = site_slots reached site is

  frame_live : (state : CState) (purpose : CPurpose) → IsPurposeWithin reached purpose → AreSlotsWithin reached state.statics → (number : ℕ) → AnyObject number → LivesWithin reached (frame_for state purpose) number
  frame_live state purpose fits statics = slots_live reached (frame_for state purpose) (slots_append reached (own_frame purpose) state.statics (own_slots purpose fits) statics)

  value_given_gives : (value : CValue) → GivesWithin reached AnyObject value → IfGiven (GivesWithin reached NoObject) (value_given value)
  value_given_gives missing gives = tt
  value_given_gives (scalar value) gives = gives
  value_given_gives (cells held from) gives = gives
  value_given_gives (names number) gives = tt
  value_given_gives (designates to) gives = tt
  value_given_gives (designates_bits at bit width) gives = tt

  statics_begin_within : (others all : List CObject) → IsControlWithin reached (beginning_statics others all)
  statics_begin_within [] all = move_within (static_puts all) (statics_within reached all)
  statics_begin_within (one ∷ others) all = tt

  main_within : (found : Option CFun) → IsControlWithin reached (main_called found)
  main_within None = tt
  main_within (Some one) = taking_within one one.params [] [] tt tt

  module _ (Fits : List CCaller → Type 0) (before : Blocks) where
    pub made : (state : CState) → Left reached before (blocks_of state.world) → AreSlotsWithin reached state.statics → IsControlWithin reached state.control → Fits state.callers → StateLeft reached Fits before state
    made state left statics control callers = record { left = left; statics = statics; control = control; callers = callers }

    stand_within : (state : CState) (world : World) (one : CStand) → StandWithin reached before one → AreSlotsWithin reached state.statics → Fits state.callers → StateLeft reached Fits before (at_stand state world one)
    stand_within state world one stands statics callers = made (at_stand state world one) stands.0 statics (move_within one.move stands.1) callers

    finished_within : (state : CState) (world : World) (operand : COperand) (purpose : CPurpose) → Left reached before (blocks_of world) → GivesWithin reached AnyObject operand.value → IsPurposeWithin reached purpose
        → AreSlotsWithin reached state.statics → Fits state.callers → StateLeft reached Fits before (finished_for state world operand purpose)
    finished_within state world operand (drops_it site) left gives fits statics callers =
        stand_within state world _ (next_within reached before site.levels site.bottom (blocks_of world) fits.0 fits.1 left) statics callers
    finished_within state world operand (turns_on site) left gives fits statics callers =
        stand_within state world _ (turning_on_within reached before site (blocks_of world) fits left) statics callers
    finished_within state world operand (puts_it place one) left gives fits statics callers = made _ left statics (gives, fits) callers
    finished_within state world operand (gives_it place site) left gives fits statics callers = made _ left statics (gives, fits) callers
    finished_within state world operand (chooses_by place site) left gives fits statics callers = made _ left statics (gives, fits) callers

    pub going_within : (state : CState) (world : World) (work : CWork) (purpose : CPurpose) → Left reached before (blocks_of world) → IsWorkWithin reached AnyObject work → IsPurposeWithin reached purpose
        → AreSlotsWithin reached state.statics → Fits state.callers → StateLeft reached Fits before (going_on state world work purpose)
    going_within state world (finished operand) purpose left is fits statics callers = finished_within state world operand purpose left is fits statics callers
    going_within state world (needs node operands) purpose left is fits statics callers = made _ left statics (is, fits) callers
    going_within state world (chooses node first) purpose left is fits statics callers = made _ left statics (is, fits) callers
    going_within state world (tests node marks second) purpose left is fits statics callers = made _ left statics (is, fits) callers
    going_within state world (carries node marks part) purpose left is fits statics callers = made _ left statics (is, fits) callers
    going_within state world (updates node update stage marks) purpose left is fits statics callers = made _ left statics (is, fits) callers
    going_within state world (fills node marks one others value) purpose left is fits statics callers = made _ left statics (is, fits) callers
    going_within state world (waits node marks) purpose left is fits statics callers = made _ left statics (is, fits) callers

  -- ---- returns where all functions that wait lead within the set

  module _ (before : Blocks) where
    ended_within : (state : CState) (world : World) (status : Result ℤ CWhy) → Left reached before (blocks_of world) → AreSlotsWithin reached state.statics → AreCallersWithin reached state.callers
        → StateLeft reached (AreCallersWithin reached) before (ended_by state world status)
    ended_within state world (Ok status) left statics callers = record { left = left; statics = statics; control = tt; callers = callers }
    ended_within state world (Err why) left statics callers = record { left = left; statics = statics; control = tt; callers = callers }

    returned_within : (state : CState) (world : World) (value : CValue) (waiting : List CCaller) → Left reached before (blocks_of world) → GivesWithin reached NoObject value → AreSlotsWithin reached state.statics
        → AreCallersWithin reached state.callers → AreCallersWithin reached waiting → StateLeft reached (AreCallersWithin reached) before (returned_to state world value waiting)
    returned_within state world value [] left gives statics callers are = ended_within state world (status_in value) left statics callers
    returned_within state world value (caller ∷ others) left gives statics callers are =
        going_within (AreCallersWithin reached) before (record state { callers = others }) world (resumed value caller.work) caller.purpose left
        (resumed_within reached AnyObject value (gives_any AnyObject value gives) caller.work are.0) are.1 statics are.2

  -- ---- steps

  module _ (Fits : List CCaller → Type 0)
      (waits_too : (work : CWork) (purpose : CPurpose) (callers : List CCaller) → IsWorkWithin reached AnyObject work → IsPurposeWithin reached purpose → Fits callers → Fits (record { work = work; purpose = purpose } ∷ callers))
      (setting : CSetting) (state : CState) (statics : AreSlotsWithin reached state.statics) (callers : Fits state.callers) (closed : IsClosedIn reached (blocks_of state.world)) where
    -- the memory is as it was
    same : Left reached (blocks_of state.world) (blocks_of state.world)
    same = left_same reached (blocks_of state.world) closed

    stops_within : (stop : CStop) → StateLeft reached Fits (blocks_of state.world) (record state { control = has_stopped stop })
    stops_within stop = made Fits (blocks_of state.world) (record state { control = has_stopped stop }) same statics tt callers

    -- ---- steps of full expressions

    answered_within : (order : List ℕ) (work : CWork) (purpose : CPurpose) (outcome : COutcome) → OutcomeWithin reached AnyObject state.world outcome → IsWorkWithin reached AnyObject work → IsPurposeWithin reached purpose
        → StateLeft reached Fits (blocks_of state.world) (answered_by (record state { order = order }) work purpose outcome)
    answered_within order work purpose (Ok (returns_value value world)) given is fits =
        going_within Fits (blocks_of state.world) (record state { order = order }) world (resumed value work) purpose given.1 (resumed_within reached AnyObject value given.0 work is) fits statics callers
    answered_within order work purpose (Ok (ends_with status world)) given is fits = made Fits (blocks_of state.world) _ given statics tt callers
    answered_within order work purpose (Err stop) given is fits = made Fits (blocks_of state.world) _ same statics tt callers

    calling_within : (order : List ℕ) (work : CWork) (purpose : CPurpose) (called : CCalled) (callee : CCallee) → AreOperandsWithin reached AnyObject called.args → IsWorkWithin reached AnyObject work → IsPurposeWithin reached purpose
        → StateLeft reached Fits (blocks_of state.world) (calling setting (record state { order = order }) work purpose called callee)
    calling_within order work purpose called (defined one) are is fits =
        made Fits (blocks_of state.world) _ same statics (taking_within one one.params (values_of_args called.args) [] (args_within called.args are) tt) (waits_too work purpose state.callers is fits callers)
    calling_within order work purpose called (external one) are is fits =
        answered_within order work purpose (external_call setting called one state.world) (outside_within reached AnyObject state.world closed setting called one are) is fits

    stepped_within : (order : List ℕ) (purpose : CPurpose) (outcome : CStepped) → IfGiven (DidWithin reached AnyObject (blocks_of state.world)) outcome → IsPurposeWithin reached purpose
        → StateLeft reached Fits (blocks_of state.world) (after_step setting (record state { order = order }) purpose outcome)
    stepped_within order purpose (Ok (did work blocks)) given fits = going_within Fits (blocks_of state.world) (record state { order = order }) _ work purpose given.1 given.0 fits statics callers
    stepped_within order purpose (Ok (asks_call called work)) given fits = calling_within order work purpose called called.callee given.0 given.1 fits
    stepped_within order purpose (Err fault) given fits = made Fits (blocks_of state.world) _ same statics tt callers

    evaluated_within : (work : CWork) (purpose : CPurpose) → IsWorkWithin reached AnyObject work → IsPurposeWithin reached purpose → StateLeft reached Fits (blocks_of state.world) (expression_step setting state work purpose)
    evaluated_within work purpose is fits =
        let one = picked state.order (ready work) in
        stepped_within one.order purpose (step_at setting (frame_for state purpose) (blocks_of state.world) one.pick work)
        (step_within reached AnyObject setting (frame_for state purpose) (frame_live state purpose fits statics) (blocks_of state.world) closed work one.pick is) fits

    -- ---- uses of finished values

    stored_within : (place : Place) (one : CPutting) (outcome : Result CStored CWhy) → IfGiven (StoreGives reached AnyObject (blocks_of state.world)) outcome → IsPurposeWithin reached (puts_it place one)
        → StateLeft reached Fits (blocks_of state.world) (after_store state place one outcome)
    stored_within place one (Ok done) is fits =
        stand_within Fits (blocks_of state.world) state state.world _ (putting_within reached (blocks_of state.world) one.object one.others one.behind done.blocks fits is.1) statics callers
    stored_within place one (Err why) is fits = stops_within _

    -- the function that runs returns
    returning_left : (value : CValue) (site : CSite) → GivesWithin reached NoObject value → IsSiteWithin reached site → StepLeft reached Fits state (returning state value site)
    returning_left value site gives is =
        StepLeft.gives_back (after_return site state.world) (given_back value) (back_gives value gives) (without_within reached (blocks_of state.world) (slots_of_site site) (blocks_of state.world) (site_slots reached site is) same)

    gave_within : (place : Place) (site : CSite) (outcome : Result CValue CWhy) → IfGiven (GivesWithin reached NoObject) outcome → IsSiteWithin reached site → StepLeft reached Fits state (after_give state place site outcome)
    gave_within place site (Ok value) gives is = returning_left value site gives is
    gave_within place site (Err why) gives is = StepLeft.goes (stops_within _)

    made_choice_within : (chooses_one : Bool) (value : CValue) (level : CLevel) (outer : List CLevel) (bottom : CBottom) → AreSlotsWithin reached level.slots → AreLevelsWithin reached outer → IsBottomWithin reached bottom
        → IfGiven (StandWithin reached (blocks_of state.world)) (choice_made chooses_one (blocks_of state.world) value level outer bottom)
    made_choice_within true value level outer bottom are levels ends =
        given_then (StandWithin reached (blocks_of state.world)) (scalar_value value) _ (λ one.
        given_then (StandWithin reached (blocks_of state.world)) (number_in one) _ (λ number. switching_within reached (blocks_of state.world) level.form number level outer bottom (blocks_of state.world) are levels ends same))
    made_choice_within false value level outer bottom are levels ends =
        given_then (StandWithin reached (blocks_of state.world)) (truth_of_value (blocks_of state.world) value) _
        (λ holds. choosing_within reached (blocks_of state.world) level.form holds level outer bottom (blocks_of state.world) are levels ends same)

    choice_within : (value : CValue) (levels : List CLevel) (bottom : CBottom) → AreLevelsWithin reached levels → IsBottomWithin reached bottom
        → IfGiven (StandWithin reached (blocks_of state.world)) (choice_at (blocks_of state.world) value levels bottom)
    choice_within value [] bottom levels ends = tt
    choice_within value (level ∷ outer) bottom levels ends = made_choice_within (is_switch level.form) value level outer bottom levels.0 levels.1 ends

    chose_within : (place : Place) (outcome : Result CStand CWhy) → IfGiven (StandWithin reached (blocks_of state.world)) outcome → StateLeft reached Fits (blocks_of state.world) (after_choice state place outcome)
    chose_within place (Ok one) stands = stand_within Fits (blocks_of state.world) state state.world one stands statics callers
    chose_within place (Err why) stands = stops_within _

    used_within : (operand : COperand) (purpose : CPurpose) → GivesWithin reached AnyObject operand.value → IsPurposeWithin reached purpose → StepLeft reached Fits state (use_step setting state operand purpose)
    used_within operand (puts_it place one) gives fits =
        StepLeft.goes
        (stored_within place one _
        (put_stored_left reached AnyObject (frame_for state (puts_it place one)) (frame_live state (puts_it place one) fits statics) setting (blocks_of state.world) one.object one.spot one.type (with_marks no_marks operand) tt gives closed) fits)
    used_within operand (drops_it site) gives fits = StepLeft.goes (finished_within Fits (blocks_of state.world) state state.world operand (drops_it site) same gives fits statics callers)
    used_within operand (turns_on site) gives fits = StepLeft.goes (finished_within Fits (blocks_of state.world) state state.world operand (turns_on site) same gives fits statics callers)
    used_within operand (gives_it place site) gives fits = gave_within place site (value_given operand.value) (value_given_gives operand.value gives) fits
    used_within operand (chooses_by place site) gives fits =
        StepLeft.goes (chose_within place (choice_at (blocks_of state.world) operand.value site.levels site.bottom) (choice_within operand.value site.levels site.bottom fits.0 fits.1))

    -- ---- lives of objects

    -- an object that was made
    abbrev GotWithin : Got Ptr → Type 0
    GotWithin got = (reached got.value.block ≡ true) × Left reached (blocks_of state.world) (blocks_of got.world)

    begun_at_within : (is_zero : Bool) (size align : ℕ) (outcome : Result Blocks StoreFault) → IfGiven {E = CStop} GotWithin (begun_at is_zero size align state.world outcome)
    begun_at_within is_zero size align (Ok blocks) = (closed.unmade (length (blocks_of state.world)) (omega arith), left_made reached (blocks_of state.world) is_zero size align closed)
    begun_at_within is_zero size align (Err (Full need left)) = tt
    begun_at_within is_zero size align (Err Memory) = tt

    object_within : (is_zero : Bool) (size align : ℕ) → IfGiven {E = CStop} GotWithin (object_begun is_zero size align state.world)
    object_within is_zero size align = begun_at_within is_zero size align (after_alloc (limit_of state.world.terms) (blocks_of state.world) size align)

    begins_within : (place : Place) (number : ℕ) → IfGiven GotWithin (object_begins setting place number state.world)
    begins_within place number = given_then GotWithin (as_stop place (shape_of setting number)) _ (λ shape. object_within false shape.laid.size shape.laid.align)

    began_within : (one : CBeginning) (outcome : Result (Got Ptr) CStop) → IfGiven GotWithin outcome → AreSlotsWithin reached one.level.slots → IsSiteWithin reached one.outer
        → StateLeft reached Fits (blocks_of state.world) (after_begin setting state one outcome)
    began_within one (Ok got) is slots outer =
        stand_within Fits (blocks_of state.world) state got.world _
        (beginning_within reached (blocks_of state.world) setting one.others one.goal (with_slot (slot one.object got.value) one.level) one.outer (blocks_of got.world)
        (slots_append reached one.level.slots (slot one.object got.value ∷ []) slots (is.0, tt)) outer is.1) statics callers
    began_within one (Err stop) is slots outer = stops_within stop

    stop_within : {A : Type 0} (P : A → Type 0) (place : Place) (outcome : Result A CWhy) → IfGiven P outcome → IfGiven P (as_stop place outcome)
    stop_within P place (Ok one) is = is
    stop_within P place (Err why) is = tt

    param_within : (place : Place) (number : ℕ) (value : CValue) → GivesWithin reached AnyObject value → IfGiven GotWithin (param_begins setting place number value state.world)
    param_within place number value gives =
        given_and GotWithin GotWithin (object_begins setting place number state.world) _ (begins_within place number) (λ got is.
        given_then GotWithin (as_stop place (shape_of setting number)) _ (λ shape.
        given_and (StoreGives reached AnyObject (blocks_of got.world)) GotWithin (as_stop place (stored setting [] (blocks_of got.world) (unqualified shape.type) (designates (Pointer got.value)) value no_marks)) _
        (stop_within (StoreGives reached AnyObject (blocks_of got.world)) place _
        (store_left reached AnyObject [] (slots_live reached [] tt) setting (blocks_of got.world) (unqualified shape.type) (designates (Pointer got.value)) value no_marks is.0 gives is.1.closed))
        (λ one one_is. (is.0, left_then reached (blocks_of state.world) (blocks_of got.world) one.blocks is.1 one_is.1))))

    took_within : (callee : CFun) (number : ℕ) (params : List ℕ) (args : List CValue) (frame : Frame) (outcome : Result (Got Ptr) CStop) → IfGiven GotWithin outcome → AreValuesWithin reached AnyObject args → AreSlotsWithin reached frame
        → StateLeft reached Fits (blocks_of state.world) (after_param state callee number params args frame outcome)
    took_within callee number params args frame (Ok got) is are slots =
        made Fits (blocks_of state.world) _ is.1 statics (taking_within callee params args _ are (slots_append reached frame (slot number got.value ∷ []) slots (is.0, tt))) callers
    took_within callee number params args frame (Err stop) is are slots = stops_within stop

    taken_within : (callee : CFun) (params : List ℕ) (args : List CValue) (frame : Frame) → AreValuesWithin reached AnyObject args → AreSlotsWithin reached frame → StateLeft reached Fits (blocks_of state.world) (take_step setting state callee params args frame)
    taken_within callee [] args frame are slots = stops_within _
    taken_within callee (number ∷ params) [] frame are slots = stops_within _
    taken_within callee (number ∷ params) (value ∷ args) frame are slots = took_within callee number params args frame _ (param_within (place_of_body callee.body) number value are.0) are.1 slots

    -- ---- static objects

    static_within : (one : CObject) → IfGiven GotWithin (static_begins setting one state.world)
    static_within one = given_then GotWithin (as_stop no_place _) _ (λ laid. object_within true laid.size laid.align)

    began_static_within : (one : CObject) (others : List CObject) (outcome : Result (Got Ptr) CStop) → IfGiven GotWithin outcome → StateLeft reached Fits (blocks_of state.world) (after_static setting state one others outcome)
    began_static_within one others (Ok got) is =
        made Fits (blocks_of state.world) _ is.1 (slots_append reached state.statics (slot one.object got.value ∷ []) statics (is.0, tt)) (statics_begin_within others (statics_in setting.program.objects)) callers
    began_static_within one others (Err stop) is = stops_within stop

    -- ---- the step

    moved_within : (one : CMove) → IsMoveWithin reached one → StepLeft reached Fits state (move_step setting state one)
    moved_within (values value purpose) is = StepLeft.goes (made Fits (blocks_of state.world) _ same statics (evaluating_within (begun value) purpose (expression_within value) is) callers)
    moved_within (reaches one site) is =
        StepLeft.goes (stand_within Fits (blocks_of state.world) state state.world _ (reached_within reached (blocks_of state.world) setting one site (blocks_of state.world) is same) statics callers)
    moved_within (begins one) is = StepLeft.goes (began_within one (object_begins setting no_place one.object state.world) (begins_within no_place one.object) is.0 is.1)
    moved_within (leaves value site) is = returning_left value site is.0 is.1
    moved_within calls_main is = StepLeft.goes (made Fits (blocks_of state.world) _ same statics (main_within (main_of setting.program)) callers)
    moved_within (goes_nowhere place) is = StepLeft.goes (stops_within _)

    pub control_left : (control : CControl) → IsControlWithin reached control → StateLeft reached Fits (blocks_of state.world) state → StepLeft reached Fits state (step_of setting state control)
    control_left (begins_static one others) is stays = StepLeft.goes (began_static_within one others (static_begins setting one state.world) (static_within one))
    control_left (moves one) is stays = moved_within one is
    control_left (evaluates work purpose) is stays = StepLeft.goes (evaluated_within work purpose is.0 is.1)
    control_left (uses operand purpose) is stays = used_within operand purpose is.0 is.1
    control_left (takes one) is stays = StepLeft.goes (taken_within one.callee one.params one.args one.frame is.0 is.1)
    control_left (has_ended status) is stays = StepLeft.goes stays
    control_left (has_stopped stop) is stays = StepLeft.goes stays

    pub state_left : IsControlWithin reached state.control → StepLeft reached Fits state (c_step setting state)
    state_left is = control_left state.control is (record { left = same; statics = statics; control = is; callers = callers })

  -- ---- where all functions that wait lead within the set

  all_wait : (work : CWork) (purpose : CPurpose) (callers : List CCaller) → IsWorkWithin reached AnyObject work → IsPurposeWithin reached purpose → AreCallersWithin reached callers
      → AreCallersWithin reached (record { work = work; purpose = purpose } ∷ callers)
  all_wait work purpose callers is fits are = (is, fits, are)

  left_within : (state next : CState) → AreSlotsWithin reached state.statics → AreCallersWithin reached state.callers → StepLeft reached (AreCallersWithin reached) state next → StateLeft reached (AreCallersWithin reached) (blocks_of state.world) next
  left_within state next statics callers (StepLeft.goes is) = is
  left_within state next statics callers (StepLeft.gives_back world value gives left) = returned_within (blocks_of state.world) state world value state.callers left gives statics callers callers

  state_within : (setting : CSetting) (state : CState) → IsReachedSet reached state → IsReachedSet reached (c_step setting state) × StaysOutside reached (blocks_of state.world) (blocks_of (c_step setting state).world)
  state_within setting state is =
      let next = left_within state (c_step setting state) is.statics is.callers (state_left (AreCallersWithin reached) all_wait setting state is.statics is.callers is.memory is.control) in
      (record { memory = next.left.closed; statics = next.statics; control = next.control; callers = next.callers }, next.left.stays)

  run_within : (setting : CSetting) (state : CState) (many : ℕ) → IsReachedSet reached state → IsReachedSet reached (c_after setting many state) × StaysOutside reached (blocks_of state.world) (blocks_of (c_after setting many state).world)
  run_within setting state zero is = (is, stays_same reached (blocks_of state.world))
  run_within setting state (suc many) is =
      let earlier = run_within setting state many is in
      let later = state_within setting (c_after setting many state) earlier.0 in
      (later.0, stays_then reached (blocks_of state.world) (blocks_of (c_after setting many state).world) _ earlier.1 later.1)

  -- ---- an expression by itself

  module _ (setting : CSetting) (frame : Frame) where
    after_call : (before : Blocks) (now after : World) (work : CWork) (called : CCalled) (callee : COuter) (value : CValue) → Left reached before (blocks_of now)
        → AreOperandsWithin reached (LivesWithin reached frame) called.args × IsWorkWithin reached (LivesWithin reached frame) work → external_call setting called callee now ≡ Ok (returns_value value after)
        → IsWorkWithin reached (LivesWithin reached frame) (resumed value work) × Left reached before (blocks_of after)
    after_call before now after work called callee value left is answer =
        let given : OutcomeWithin reached (LivesWithin reached frame) now (Ok (returns_value value after)) =
        subst (OutcomeWithin reached (LivesWithin reached frame) now) answer (outside_within reached (LivesWithin reached frame) now left.closed setting called callee is.0) in
        (resumed_within reached (LivesWithin reached frame) value given.0 work is.1, left_then reached before (blocks_of now) (blocks_of after) left given.1)

    points_within : (e : CExpr) (before end : World) (last : CWork) → NamesOnly (LivesWithin reached frame) e → IsClosedIn reached (blocks_of before) → EvaluatesIn setting frame (begun e) before last end
        → IsWorkWithin reached (LivesWithin reached frame) last × Left reached (blocks_of before) (blocks_of end)
    points_within e before end last only closed EvaluatesIn.not_yet = (begun_within reached (LivesWithin reached frame) e only, left_same reached (blocks_of before) closed)
    points_within e before end last only closed (EvaluatesIn.and_then_at {work} {next} {now} {after} pick steps same_step) =
        let point = points_within e before now work only closed steps in
        let given : IfGiven {E = CFault} (DidWithin reached (LivesWithin reached frame) (blocks_of now)) (Ok (did last after)) =
        subst (IfGiven {E = CFault} (DidWithin reached (LivesWithin reached frame) (blocks_of now))) same_step (step_within reached (LivesWithin reached frame) setting frame (λ number is. is) (blocks_of now) point.1.closed work pick point.0) in
        (given.0, left_then reached (blocks_of before) (blocks_of now) after point.1 given.1)
    points_within e before end last only closed (EvaluatesIn.and_then_called {work} {next} {now} {after} {called} {callee} {value} pick steps same_step is answer) =
        let point = points_within e before now work only closed steps in
        let given : IfGiven {E = CFault} (DidWithin reached (LivesWithin reached frame) (blocks_of now)) (Ok (asks_call called next)) =
        subst (IfGiven {E = CFault} (DidWithin reached (LivesWithin reached frame) (blocks_of now))) same_step (step_within reached (LivesWithin reached frame) setting frame (λ number is. is) (blocks_of now) point.1.closed work pick point.0) in
        after_call (blocks_of before) now after next called callee value point.1 given answer

-- ---- the law

pub unreached_stays : UnreachedStays
unreached_stays = record {
  step = λ reached setting state is. state_within reached setting state is;
  steps = λ reached setting state many is. run_within reached setting state many is;
  values = λ reached setting state many is. loads_alike reached (blocks_of state.world) (blocks_of (c_after setting many state).world) (run_within reached setting state many is).1;
  evaluation = λ reached setting frame e before now work only closed steps.
      let point = points_within reached setting frame e before now work only closed steps in
      record {
        stays = point.1.stays;
        loads = loads_alike reached (blocks_of before) (blocks_of now) point.1.stays;
        within = point.0;
        closed = point.1.closed;
      };
}
