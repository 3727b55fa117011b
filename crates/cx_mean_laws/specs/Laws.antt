-- Laws of the pieces of the leftmost run (ISO C99, 5.1.2.3): values, moves and calls. They leave no more steps than they had, an
-- expression that isn't finished takes one, and the depth to which moves are followed plays no part.
use Rattle.std.specs.Prelude.{◌≡◌, ℕ, suc, ◌+◌, ◌<◌, ◌≤◌, ℤ, false, List, [], ◌∷◌, ◌++◌}
use Rattle.cr_runs.specs.Runs.{came, halted, bad, out, bind, tick}
use Rattle.cr_world.specs.World.{Outside, Terms, World, first_world}
use Rattle.cx_core.specs.Trees.{CExpr, CExprs, CFun, CObject, CProgram}
use Rattle.cx_mean.specs.Leftmost.{CRan, CPiece, CCalls, CGoes, or_stop, c_value, c_values, c_called, c_move, c_goes, c_ended, c_program}
use Rattle.cx_mean.specs.Moves.{CMove, static_puts}
use Rattle.cx_mean.specs.Operands.{CValue, Frame}
use Rattle.cx_mean.specs.Settings.{CSetting, setting_of}
use Rattle.cx_mean.specs.State.{slot, static_begins, statics_in}
use Rattle.cx_mean.specs.Work.{is_finished, begun}

-- ---- bounds

-- a piece that came to its end took so many steps at least
abbrev pub Takes : {A : Type 0} → (least steps : ℕ) → CRan A → Type 0
Takes least steps (came value world left) = left + least ≤ steps
Takes least steps (halted status world) = Unit {0}
Takes least steps (bad stop world) = Unit {0}
Takes least steps (out world) = Unit {0}

-- it left no more steps than it had
abbrev pub LeavesWithin : {A : Type 0} → (steps : ℕ) → CRan A → Type 0
LeavesWithin steps piece = Takes 0 steps piece

-- so do calls of functions, and moves
abbrev pub AreBounded : CCalls → Type 0
AreBounded calls =
    (callee : CFun) (args : List CValue) (world : World) (steps : ℕ) → LeavesWithin steps (calls callee args world steps)

abbrev pub IsBounded : CGoes → Type 0
IsBounded goes = (move : CMove) (world : World) (steps : ℕ) → LeavesWithin steps (goes move world steps)

-- pieces leave no more steps than they had
pub record LeavesNoMore : Type 0 where
  pub value : (setting : CSetting) (calls : CCalls) (frame : Frame) (e : CExpr) (world : World) (steps : ℕ) → AreBounded calls →
      LeavesWithin steps (c_value setting calls frame e world steps)
  pub values : (setting : CSetting) (calls : CCalls) (frame : Frame) (all : CExprs) (world : World) (steps : ℕ) → AreBounded calls →
      LeavesWithin steps (c_values setting calls frame all world steps)
  -- a move, where what goes on behind its steps does
  pub move : (setting : CSetting) (statics : Frame) (goes : CGoes) (one : CMove) (world : World) (steps : ℕ) → IsBounded goes →
      LeavesWithin steps (c_move setting statics goes one world steps)
  pub called : (setting : CSetting) (goes : CGoes) → IsBounded goes → AreBounded (c_called setting goes)
  -- and all moves of a run
  pub goes : (setting : CSetting) (statics : Frame) (fuel : ℕ) → IsBounded (c_goes setting statics fuel)

-- an expression that isn't finished takes a step
abbrev pub UnfinishedTakes : Type 0
UnfinishedTakes =
    (setting : CSetting) (calls : CCalls) (frame : Frame) (e : CExpr) (world : World) (steps : ℕ) → AreBounded calls →
    is_finished (begun e) ≡ false → Takes 1 steps (c_value setting calls frame e world steps)

-- ---- calls that are the same below a bound

-- within less than so many steps two ways to call functions give the same, and so do two ways to go on from a move
abbrev pub CallsAgree : (most : ℕ) → CCalls → CCalls → Type 0
CallsAgree most calls other =
    (callee : CFun) (args : List CValue) (world : World) (left : ℕ) → left < most →
    calls callee args world left ≡ other callee args world left

abbrev pub GoesAgree : (most : ℕ) → CGoes → CGoes → Type 0
GoesAgree most goes other =
    (move : CMove) (world : World) (left : ℕ) → left < most → goes move world left ≡ other move world left

-- what is called, or goes on, is asked for within less steps than there are
pub record AskedBehindSteps : Type 0 where
  pub value : (setting : CSetting) (calls other : CCalls) (frame : Frame) (e : CExpr) (world : World) (steps : ℕ) → AreBounded calls →
      CallsAgree steps calls other → c_value setting calls frame e world steps ≡ c_value setting other frame e world steps
  pub move : (setting : CSetting) (statics : Frame) (goes other : CGoes) (one : CMove) (world : World) (steps : ℕ) → IsBounded goes →
      GoesAgree steps goes other → c_move setting statics goes one world steps ≡ c_move setting statics other one world steps

-- ---- the depth of moves

-- how a function runs from a move on, as deep as the bound goes
abbrev pub goes_of : CSetting → Frame → CGoes
goes_of setting statics move world left = c_goes setting statics (suc left) move world left

-- how functions that units define run when they are called
abbrev pub calls_of : CSetting → Frame → CCalls
calls_of setting statics = c_called setting (goes_of setting statics)

-- a whole run from the static objects on that haven't begun
abbrev pub begins_of : CSetting → List CObject → Frame → CPiece ℤ
begins_of setting [] statics world left =
    bind (goes_of setting statics (static_puts (statics_in setting.program.objects)) world left) c_ended
begins_of setting (one ∷ others) statics world left =
    tick world (or_stop (static_begins setting one world) (λ got after more.
    begins_of setting others (statics ++ slot one.object got.value ∷ []) got.world more) world) left

-- the depth to which moves are followed plays no part, where it is more than the bound
pub record GoesUnfold : Type 0 where
  pub depth : (setting : CSetting) (statics : Frame) (fuel : ℕ) (move : CMove) (world : World) (left : ℕ) → left < fuel →
      c_goes setting statics fuel move world left ≡ goes_of setting statics move world left
  -- so a move is one step and what goes on behind it
  pub unfolds : (setting : CSetting) (statics : Frame) (move : CMove) (world : World) (left : ℕ) →
      goes_of setting statics move world left ≡ c_move setting statics (goes_of setting statics) move world left
  -- and a program runs so from its static objects on
  pub program : (program : CProgram) (terms : Terms) (outside : Outside) (steps : ℕ) →
      c_program program terms outside steps ≡ begins_of (setting_of program) (statics_in program.objects) [] (first_world terms outside) steps
  -- what it goes by leaves no more steps than it had
  pub bounded : (setting : CSetting) (statics : Frame) → IsBounded (goes_of setting statics)
  pub calls_bounded : (setting : CSetting) (statics : Frame) → AreBounded (calls_of setting statics)
