-- Functions that are called, and expressions that call them, change no block to which nothing of theirs leads: by the steps of states
-- above functions that wait.
use Rattle.std.proofs.Common.{◌≡◌, ℕ, zero, suc, ◌≤◌, ◌==◌, Bool, true, false, if◌then◌else◌, List, [], ◌∷◌, ◌++◌, length, ℤ, Option, Some, Result, Ok, Err, refl, sym, ap, subst, arith}
use Rattle.cr_world.specs.World.{World, blocks_of}
use Rattle.cx_mean.proofs.KeptNodes.{IfGiven}
use Rattle.cx_mean.specs.Calls.{CCallee, defined, external, CCalled, returns_value, ends_with, COutcome, external_call}
use Rattle.cx_mean.specs.Moves.{CPurpose, puts_it, drops_it, turns_on, gives_it, chooses_by}
use Rattle.cx_mean.specs.Operands.{CWhy, CValue, scalar, cells, names, designates, designates_bits, missing, COperand, Frame, slot_of}
use Rattle.cx_mean.specs.Run.{c_after}
use Rattle.cx_mean.specs.Settings.{CSetting}
use Rattle.cx_mean.specs.State.{CCaller, CControl, evaluates, CState, ended_by, going_on, finished_for, answered_by, calling, values_of_args, own_frame, frame_for, after_step, status_in, returned_to, step_of, c_step}
use Rattle.cx_mean.specs.Steps.{did, asks_call, CStepped, step_at, picked}
use Rattle.cx_mean.specs.Work.{CWork, finished, needs, chooses, tests, carries, updates, fills, waits, resumed, ready}
use Rattle.mem_bytes.specs.declared.value.Ptr.{Ptr}
use Rattle.mem_bytes.specs.Memory.{Blocks}
use Rattle.cx_stays.proofs.ReachCalls.{OutcomeWithin, outside_within}
use Rattle.cx_stays.proofs.ReachMemory.{Left, stays_same, stays_then, loads_alike}
use Rattle.cx_stays.proofs.ReachMoves.{slots_live}
use Rattle.cx_stays.proofs.ReachNodes.{DidWithin, begun_within}
use Rattle.cx_stays.proofs.ReachStates.{StateLeft, StepLeft, going_within, taking_within, args_within, gives_any, state_left}
use Rattle.cx_stays.proofs.ReachSteps.{resumed_within, step_within}
use Rattle.cx_stays.specs.Called.{IsReachedAbove, StepsAbove, IsInExpression, StepsInExpression, CalledLeavesUnreached}
use Rattle.cx_stays.specs.Reach.{IsPlaceWithin, GivesWithin, AreOperandsWithin, IsWorkWithin, IsClosedIn, StaysOutside, AnyObject, NoObject, AreSlotsWithin, IsPurposeWithin, AreCallersWithin, LivesWithin}

-- functions that wait, of which those above some others lead within the set
pub record AreAbove (reached : ℕ → Bool) (below callers : List CCaller) : Type 0 where
  pub inner : List CCaller
  pub waiting : AreCallersWithin reached inner
  pub made_of : callers ≡ inner ++ below

module _ (reached : ℕ → Bool) where
  -- ---- functions above others

  module _ (below : List CCaller) where
    waits_above : (work : CWork) (purpose : CPurpose) (callers : List CCaller) → IsWorkWithin reached AnyObject work → IsPurposeWithin reached purpose → AreAbove reached below callers
        → AreAbove reached below (record { work = work; purpose = purpose } ∷ callers)
    waits_above work purpose callers is fits are = record {
      inner = record { work = work; purpose = purpose } ∷ are.inner;
      waiting = (is, fits, are.waiting);
      made_of = ap (λ (others : List CCaller). record { work = work; purpose = purpose } ∷ others) are.made_of;
    }

    above_again : (state next : CState) → StateLeft reached (AreAbove reached below) (blocks_of state.world) next → StepsAbove reached below state next
    above_again state next is =
        StepsAbove.goes_above
        (record { memory = is.left.closed; statics = is.statics; control = is.control; inner = is.callers.inner; waiting = is.callers.waiting; callers = is.callers.made_of }) is.left.stays

    -- a value is given back to the innermost function that waits
    to_inner : (state : CState) (world : World) (value : CValue) (inner : List CCaller) → AreSlotsWithin reached state.statics → AreCallersWithin reached inner → GivesWithin reached NoObject value
        → Left reached (blocks_of state.world) (blocks_of world) → StepsAbove reached below state (returned_to state world value (inner ++ below))
    to_inner state world value [] statics are gives left = StepsAbove.returns_below world value gives left.closed left.stays
    to_inner state world value (caller ∷ others) statics are gives left =
        above_again state _
        (going_within reached (AreAbove reached below) (blocks_of state.world) (record state { callers = others ++ below }) world (resumed value caller.work) caller.purpose left
        (resumed_within reached AnyObject value (gives_any reached AnyObject value gives) caller.work are.0) are.1 statics (record { inner = others; waiting = are.2; made_of = refl }))

    above_left : (state next : CState) → IsReachedAbove reached below state → StepLeft reached (AreAbove reached below) state next → StepsAbove reached below state next
    above_left state next is (StepLeft.goes left) = above_again state next left
    above_left state next is (StepLeft.gives_back world value gives left) =
        subst (λ (waiting : List CCaller). StepsAbove reached below state (returned_to state world value waiting)) (sym is.callers) (to_inner state world value is.inner is.statics is.waiting gives left)

    pub above_steps : (setting : CSetting) (state : CState) → IsReachedAbove reached below state → StepsAbove reached below state (c_step setting state)
    above_steps setting state is =
        above_left state (c_step setting state) is
        (state_left reached (AreAbove reached below) waits_above setting state is.statics (record { inner = is.inner; waiting = is.waiting; made_of = is.callers }) is.memory is.control)

  -- ---- any number of steps

  -- a full expression that goes on leaves the functions that wait
  finished_callers : (state : CState) (world : World) (operand : COperand) (purpose : CPurpose) → (finished_for state world operand purpose).callers ≡ state.callers
  finished_callers state world operand (puts_it place one) = refl
  finished_callers state world operand (drops_it site) = refl
  finished_callers state world operand (turns_on site) = refl
  finished_callers state world operand (gives_it place site) = refl
  finished_callers state world operand (chooses_by place site) = refl

  going_callers : (state : CState) (world : World) (work : CWork) (purpose : CPurpose) → (going_on state world work purpose).callers ≡ state.callers
  going_callers state world (finished operand) purpose = finished_callers state world operand purpose
  going_callers state world (needs node operands) purpose = refl
  going_callers state world (chooses node first) purpose = refl
  going_callers state world (tests node marks second) purpose = refl
  going_callers state world (carries node marks part) purpose = refl
  going_callers state world (updates node update stage marks) purpose = refl
  going_callers state world (fills node marks one others value) purpose = refl
  going_callers state world (waits node marks) purpose = refl

  -- none goes on below, so the outermost function above has not returned, but at the end of the program
  above_still : (below : List CCaller) (before : Blocks) (state : CState) (world : World) (value : CValue) → IsReachedAbove reached below state → IsClosedIn reached (blocks_of world)
      → StaysOutside reached before (blocks_of world) → length below ≤ length (returned_to state world value below).callers
      → IsReachedAbove reached below (returned_to state world value below) × StaysOutside reached before (blocks_of (returned_to state world value below).world)
  above_still [] before state world value is closed stays many = ended (status_in value)
    where
      ended : (status : Result ℤ CWhy) → IsReachedAbove reached [] (ended_by state world status) × StaysOutside reached before (blocks_of (ended_by state world status).world)
      ended (Ok status) = (record { memory = closed; statics = is.statics; control = tt; inner = is.inner; waiting = is.waiting; callers = is.callers }, stays)
      ended (Err why) = (record { memory = closed; statics = is.statics; control = tt; inner = is.inner; waiting = is.waiting; callers = is.callers }, stays)
  above_still (caller ∷ others) before state world value is closed stays many =
      absurd (omega (arith, many, ap length (going_callers (record state { callers = others }) world (resumed value caller.work) caller.purpose)))

  above_next : (below : List CCaller) (before : Blocks) (state next : CState) → IsReachedAbove reached below state → StaysOutside reached before (blocks_of state.world) → StepsAbove reached below state next
      → length below ≤ length next.callers → IsReachedAbove reached below next × StaysOutside reached before (blocks_of next.world)
  above_next below before state next is stays (StepsAbove.goes_above later more) many = (later, stays_then reached before (blocks_of state.world) (blocks_of next.world) stays more)
  above_next below before state next is stays (StepsAbove.returns_below world value gives closed more) many =
      above_still below before state world value is closed (stays_then reached before (blocks_of state.world) (blocks_of world) stays more) many

  above_runs : (below : List CCaller) (setting : CSetting) (state : CState) (many : ℕ) → IsReachedAbove reached below state → ((count : ℕ) → count ≤ many → length below ≤ length (c_after setting count state).callers)
      → IsReachedAbove reached below (c_after setting many state) × StaysOutside reached (blocks_of state.world) (blocks_of (c_after setting many state).world)
  above_runs below setting state zero is wait = (is, stays_same reached (blocks_of state.world))
  above_runs below setting state (suc many) is wait =
      let earlier = above_runs below setting state many is (λ count within. wait count (omega (arith, within))) in
      above_next below (blocks_of state.world) (c_after setting many state) (c_step setting (c_after setting many state)) earlier.0 earlier.1
      (above_steps below setting (c_after setting many state) earlier.0) (wait (suc many) (omega arith))

  -- ---- expressions in runs

  any_gives : (Named : ℕ → Type 0) (value : CValue) → GivesWithin reached Named value → GivesWithin reached AnyObject value
  any_gives Named (cells held from) gives = gives
  any_gives Named (scalar value) gives = gives
  any_gives Named (names number) gives = tt
  any_gives Named (designates to) gives = gives
  any_gives Named (designates_bits at bit width) gives = gives
  any_gives Named missing gives = gives

  any_operands : (Named : ℕ → Type 0) (args : List COperand) → AreOperandsWithin reached Named args → AreOperandsWithin reached AnyObject args
  any_operands Named [] are = tt
  any_operands Named (first ∷ others) are = (any_gives Named first.value are.0, any_operands Named others are.1)

  -- an object of a function's own, or a static one
  one_or_other : (test : Bool) (place one other : Option Ptr) → (IsPlaceWithin reached one → IsPlaceWithin reached other) → IsPlaceWithin reached (if test then place else one) → IsPlaceWithin reached (if test then place else other)
  one_or_other true place one other all is = is
  one_or_other false place one other all is = all is

  live_beside : (own statics : Frame) (number : ℕ) → AreSlotsWithin reached statics → LivesWithin reached own number → LivesWithin reached (own ++ statics) number
  live_beside [] statics number are is = slots_live reached statics are number tt
  live_beside (slot ∷ others) statics number are is =
      one_or_other (slot.object == number) (Some (record { block = slot.block; offset = 0 })) (slot_of others number) (slot_of (others ++ statics) number) (live_beside others statics number are) is

  module _ (purpose : CPurpose) (below : List CCaller) where
    -- the expression goes on, or is finished
    goes_in : (state later : CState) (world : World) (work : CWork) → later.callers ≡ below → AreSlotsWithin reached later.statics → IsWorkWithin reached (LivesWithin reached (own_frame purpose)) work
        → Left reached (blocks_of state.world) (blocks_of world) → StepsInExpression reached purpose below state (going_on later world work purpose)
    goes_in state later world (finished operand) callers statics is left = StepsInExpression.is_finished later world operand callers statics is left.closed left.stays
    goes_in state later world (needs node operands) callers statics is left = StepsInExpression.goes_on (IsInExpression.itself (needs node operands) refl callers is left.closed statics) left.stays
    goes_in state later world (chooses node first) callers statics is left = StepsInExpression.goes_on (IsInExpression.itself (chooses node first) refl callers is left.closed statics) left.stays
    goes_in state later world (tests node marks second) callers statics is left = StepsInExpression.goes_on (IsInExpression.itself (tests node marks second) refl callers is left.closed statics) left.stays
    goes_in state later world (carries node marks part) callers statics is left = StepsInExpression.goes_on (IsInExpression.itself (carries node marks part) refl callers is left.closed statics) left.stays
    goes_in state later world (updates node update stage marks) callers statics is left =
        StepsInExpression.goes_on (IsInExpression.itself (updates node update stage marks) refl callers is left.closed statics) left.stays
    goes_in state later world (fills node marks one others value) callers statics is left =
        StepsInExpression.goes_on (IsInExpression.itself (fills node marks one others value) refl callers is left.closed statics) left.stays
    goes_in state later world (waits node marks) callers statics is left = StepsInExpression.goes_on (IsInExpression.itself (waits node marks) refl callers is left.closed statics) left.stays

    module _ (setting : CSetting) (state : CState) (callers : state.callers ≡ below) (closed : IsClosedIn reached (blocks_of state.world)) (statics : AreSlotsWithin reached state.statics) where
      answered_in : (order : List ℕ) (work : CWork) (outcome : COutcome) → OutcomeWithin reached (LivesWithin reached (own_frame purpose)) state.world outcome → IsWorkWithin reached (LivesWithin reached (own_frame purpose)) work
          → StepsInExpression reached purpose below state (answered_by (record state { order = order }) work purpose outcome)
      answered_in order work (Ok (returns_value value world)) given is =
          goes_in state (record state { order = order }) world (resumed value work) callers statics (resumed_within reached (LivesWithin reached (own_frame purpose)) value given.0 work is) given.1
      answered_in order work (Ok (ends_with status world)) given is = StepsInExpression.is_over tt given.stays
      answered_in order work (Err stop) given is = StepsInExpression.is_over tt (stays_same reached (blocks_of state.world))

      calling_in : (order : List ℕ) (work : CWork) (called : CCalled) (callee : CCallee) → AreOperandsWithin reached (LivesWithin reached (own_frame purpose)) called.args
          → IsWorkWithin reached (LivesWithin reached (own_frame purpose)) work → StepsInExpression reached purpose below state (calling setting (record state { order = order }) work purpose called callee)
      calling_in order work called (defined one) are is =
          StepsInExpression.goes_on
          (IsInExpression.in_call work is
          (record {
            memory = closed;
            statics = statics;
            control = taking_within reached one one.params (values_of_args called.args) [] (args_within reached called.args (any_operands (LivesWithin reached (own_frame purpose)) called.args are)) tt;
            inner = [];
            waiting = tt;
            callers = ap (λ (others : List CCaller). record { work = work; purpose = purpose } ∷ others) callers;
          }))
          (stays_same reached (blocks_of state.world))
      calling_in order work called (external one) are is =
          answered_in order work (external_call setting called one state.world) (outside_within reached (LivesWithin reached (own_frame purpose)) state.world closed setting called one are) is

      stepped_in : (order : List ℕ) (outcome : CStepped) → IfGiven (DidWithin reached (LivesWithin reached (own_frame purpose)) (blocks_of state.world)) outcome
          → StepsInExpression reached purpose below state (after_step setting (record state { order = order }) purpose outcome)
      stepped_in order (Ok (did work blocks)) given = goes_in state (record state { order = order }) _ work callers statics given.0 given.1
      stepped_in order (Ok (asks_call called work)) given = calling_in order work called called.callee given.0 given.1
      stepped_in order (Err fault) given = StepsInExpression.is_over tt (stays_same reached (blocks_of state.world))

      evaluates_in : (work : CWork) → IsWorkWithin reached (LivesWithin reached (own_frame purpose)) work → StepsInExpression reached purpose below state (step_of setting state (evaluates work purpose))
      evaluates_in work is =
          let one = picked state.order (ready work) in
          stepped_in one.order (step_at setting (frame_for state purpose) (blocks_of state.world) one.pick work)
          (step_within reached (LivesWithin reached (own_frame purpose)) setting (frame_for state purpose) (λ number lives. live_beside (own_frame purpose) state.statics number statics lives) (blocks_of state.world) closed work one.pick is)

    -- a function that it called goes on, or has returned
    called_in : (state next : CState) (work : CWork) → IsWorkWithin reached (LivesWithin reached (own_frame purpose)) work → AreSlotsWithin reached state.statics → StepsAbove reached (record { work = work; purpose = purpose } ∷ below) state next
        → StepsInExpression reached purpose below state next
    called_in state next work is statics (StepsAbove.goes_above later stays) = StepsInExpression.goes_on (IsInExpression.in_call work is later) stays
    called_in state next work is statics (StepsAbove.returns_below world value gives closed stays) =
        goes_in state (record state { callers = below }) world (resumed value work) refl statics
        (resumed_within reached (LivesWithin reached (own_frame purpose)) value (gives_any reached (LivesWithin reached (own_frame purpose)) value gives) work is) (record { stays = stays; closed = closed })

    pub expression_steps : (setting : CSetting) (state : CState) → IsInExpression reached purpose below state → StepsInExpression reached purpose below state (c_step setting state)
    expression_steps setting state (IsInExpression.itself work control callers is closed statics) =
        subst (λ (one : CControl). StepsInExpression reached purpose below state (step_of setting state one)) (sym control) (evaluates_in setting state callers closed statics work is)
    expression_steps setting state (IsInExpression.in_call work is above) =
        called_in state (c_step setting state) work is above.statics (above_steps (record { work = work; purpose = purpose } ∷ below) setting state above)

-- ---- the law

pub called_leaves_unreached : CalledLeavesUnreached
called_leaves_unreached = record {
  step = λ reached setting below state is. above_steps reached below setting state is;
  steps = λ reached setting below state many is wait. above_runs reached below setting state many is wait;
  values = λ reached setting below state many is wait.
      loads_alike reached (blocks_of state.world) (blocks_of (c_after setting many state).world) (above_runs reached below setting state many is wait).1;
  begun_within = λ reached purpose e only. begun_within reached (LivesWithin reached (own_frame purpose)) e only;
  expression = λ reached setting purpose below state is. expression_steps reached purpose below setting state is;
}
