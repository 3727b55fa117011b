-- What functions that are called can't reach (ISO C99, 6.2.4, 6.5p2 and 6.5.2.2). The functions that wait for one have objects of their
-- own: what its arguments and the static objects don't lead to stays as it is until it returns. So it is with an expression in a run,
-- whatever functions it calls: of the objects of its function it reaches those that it names.
use Rattle.std.specs.Prelude.{◌≡◌, ℕ, ◌≤◌, Bool, List, ◌∷◌, ◌++◌, length}
use Rattle.cr_world.specs.World.{World, blocks_of}
use Rattle.cx_core.specs.Trees.{CExpr}
use Rattle.cx_mean.specs.Moves.{CPurpose}
use Rattle.cx_mean.specs.Operands.{CValue, COperand}
use Rattle.cx_mean.specs.Run.{c_after}
use Rattle.cx_mean.specs.Settings.{CSetting}
use Rattle.cx_mean.specs.State.{CCaller, CControl, begins_static, moves, evaluates, uses, takes, has_ended, has_stopped, CState, own_frame, finished_for, returned_to, c_step}
use Rattle.cx_mean.specs.Work.{CWork, begun}
use Rattle.cx_stays.specs.Reach.{GivesWithin, NamesOnly, IsWorkWithin, IsClosedIn, StaysOutside, LoadsAlikeOutside, NoObject, AreSlotsWithin, IsControlWithin, AreCallersWithin, LivesWithin}

-- ---- functions above others

-- all that the function that runs names or points to is in a set, and all that the functions do that wait for it above some others;
-- those below may have objects anywhere
pub record IsReachedAbove (reached : ℕ → Bool) (below : List CCaller) (state : CState) : Type 0 where
  pub memory : IsClosedIn reached (blocks_of state.world)
  -- the static objects
  pub statics : AreSlotsWithin reached state.statics
  pub control : IsControlWithin reached state.control
  -- the functions that wait above
  pub inner : List CCaller
  pub waiting : AreCallersWithin reached inner
  pub callers : state.callers ≡ inner ++ below

-- a step of such a state: the functions above go on; or the outermost of them returns to those below, and gives a value that leads within
-- the set. The blocks that the set leaves out are as they were.
pub data StepsAbove (reached : ℕ → Bool) (below : List CCaller) (state : CState) : CState → Type 0 where
  goes_above : {next : CState} → IsReachedAbove reached below next →
      StaysOutside reached (blocks_of state.world) (blocks_of next.world) → StepsAbove reached below state next
  returns_below : (world : World) (value : CValue) → GivesWithin reached NoObject value → IsClosedIn reached (blocks_of world) →
      StaysOutside reached (blocks_of state.world) (blocks_of world) → StepsAbove reached below state (returned_to state world value below)

-- ---- an expression in a run

-- a full expression is evaluated in a function: the expression itself, which names of that function's objects those alone that live in
-- blocks of a set, or functions that it called
pub data IsInExpression (reached : ℕ → Bool) (purpose : CPurpose) (below : List CCaller) (state : CState) : Type 0 where
  itself : (work : CWork) → state.control ≡ evaluates work purpose → state.callers ≡ below →
      IsWorkWithin reached (LivesWithin reached (own_frame purpose)) work → IsClosedIn reached (blocks_of state.world) →
      AreSlotsWithin reached state.statics → IsInExpression reached purpose below state
  in_call : (work : CWork) → IsWorkWithin reached (LivesWithin reached (own_frame purpose)) work →
      IsReachedAbove reached (record { work = work; purpose = purpose } ∷ below) state → IsInExpression reached purpose below state

-- a run has ended, or goes no further
abbrev pub IsOver : CControl → Type 0
IsOver (begins_static one others) = ⊥
IsOver (moves one) = ⊥
IsOver (evaluates work purpose) = ⊥
IsOver (uses operand purpose) = ⊥
IsOver (takes one) = ⊥
IsOver (has_ended status) = Unit {0}
IsOver (has_stopped stop) = Unit {0}

-- a step of it: its evaluation goes on, or it is finished, or the run is over. The blocks that the set leaves out are as they were.
pub data StepsInExpression (reached : ℕ → Bool) (purpose : CPurpose) (below : List CCaller) (state : CState) : CState → Type 0 where
  goes_on : {next : CState} → IsInExpression reached purpose below next →
      StaysOutside reached (blocks_of state.world) (blocks_of next.world) → StepsInExpression reached purpose below state next
  is_finished : (later : CState) (world : World) (operand : COperand) → later.callers ≡ below → AreSlotsWithin reached later.statics →
      GivesWithin reached (LivesWithin reached (own_frame purpose)) operand.value → IsClosedIn reached (blocks_of world) →
      StaysOutside reached (blocks_of state.world) (blocks_of world) →
      StepsInExpression reached purpose below state (finished_for later world operand purpose)
  is_over : {next : CState} → IsOver next.control → StaysOutside reached (blocks_of state.world) (blocks_of next.world) →
      StepsInExpression reached purpose below state next

-- ---- the law

pub record CalledLeavesUnreached : Type 0 where
  -- each step of a function that was called, and of those that it calls
  pub step : (reached : ℕ → Bool) (setting : CSetting) (below : List CCaller) (state : CState) → IsReachedAbove reached below state →
      StepsAbove reached below state (c_step setting state)
  -- and any number of steps, as long as all the functions below wait
  pub steps : (reached : ℕ → Bool) (setting : CSetting) (below : List CCaller) (state : CState) (many : ℕ) →
      IsReachedAbove reached below state →
      ((count : ℕ) → count ≤ many → length below ≤ length (c_after setting count state).callers) →
      IsReachedAbove reached below (c_after setting many state)
      × StaysOutside reached (blocks_of state.world) (blocks_of (c_after setting many state).world)
  -- so what is loaded after them is what it was
  pub values : (reached : ℕ → Bool) (setting : CSetting) (below : List CCaller) (state : CState) (many : ℕ) →
      IsReachedAbove reached below state →
      ((count : ℕ) → count ≤ many → length below ≤ length (c_after setting count state).callers) →
      LoadsAlikeOutside reached (blocks_of state.world) (blocks_of (c_after setting many state).world)
  -- an expression that begins leads within a set where the objects that it names do
  pub begun_within : (reached : ℕ → Bool) (purpose : CPurpose) (e : CExpr) → NamesOnly (LivesWithin reached (own_frame purpose)) e →
      IsWorkWithin reached (LivesWithin reached (own_frame purpose)) (begun e)
  -- each step of a run in which it is evaluated, whatever functions it calls
  pub expression : (reached : ℕ → Bool) (setting : CSetting) (purpose : CPurpose) (below : List CCaller) (state : CState) →
      IsInExpression reached purpose below state → StepsInExpression reached purpose below state (c_step setting state)
