-- What the moves of a body leave (ISO C99, 6.2.4p5 and 6.8): the objects of the open statements that are left die, from the innermost on, and
-- those of the others are all that is in scope.
use Rattle.std.specs.Prelude.{◌≡◌, ℕ, ℤ, Bool, List, [], ◌∷◌, ◌++◌, Result, Ok, Err}
use Rattle.cr_base.specs.declared.refusal.Place.{Place}
use Rattle.cx_core.specs.Trees.{CPuts, CStmtForm, begin}
use Rattle.cx_mean.specs.Initialisers.{CCleared, object_cleared}
use Rattle.cx_mean.specs.Moves.{CBehind, in_body, of_statics, CPurpose, puts_it, drops_it, turns_on, gives_it, chooses_by, CGoal, does_form, follows, CMove, values, reaches, begins, leaves, calls_main, goes_nowhere, CStand, without_objects, slots_in, turning, turn_ended, next_in, level_ended, breaking, continuing, jumping, following, putting, doing, beginning, choosing, switching, turning_on}
use Rattle.cx_mean.specs.Operands.{CWhy, CValue, Frame}
use Rattle.cx_mean.specs.Paths.{CLevel, CBottom, CSite, CWay}
use Rattle.cx_mean.specs.Settings.{CSetting}
use Rattle.cx_mean.specs.State.{choice_at}
use Rattle.mem_bytes.specs.Memory.{Blocks}

-- ---- where a move is made

-- a site of a function in which these objects of open statements live
pub record StandsIn (kept : Frame) (bottom : CBottom) (site : CSite) : Type 0 where
  pub slots : slots_in site.levels ≡ kept
  pub in_function : site.bottom ≡ bottom

abbrev pub IsBehindIn : Frame → CBottom → CBehind → Type 0
IsBehindIn kept bottom (in_body site) = StandsIn kept bottom site
IsBehindIn kept bottom (of_statics others) = ⊥

abbrev pub IsPurposeIn : Frame → CBottom → CPurpose → Type 0
IsPurposeIn kept bottom (puts_it place one) = IsBehindIn kept bottom one.behind
IsPurposeIn kept bottom (drops_it site) = StandsIn kept bottom site
IsPurposeIn kept bottom (turns_on site) = StandsIn kept bottom site
IsPurposeIn kept bottom (gives_it place site) = StandsIn kept bottom site
IsPurposeIn kept bottom (chooses_by place site) = StandsIn kept bottom site

-- a move in such a site; what no typed program does has none
abbrev pub IsMoveIn : Frame → CBottom → CMove → Type 0
IsMoveIn kept bottom (values value purpose) = IsPurposeIn kept bottom purpose
IsMoveIn kept bottom (reaches one site) = StandsIn kept bottom site
IsMoveIn kept bottom (begins one) = (one.level.slots ++ slots_in one.outer.levels ≡ kept) × (one.outer.bottom ≡ bottom)
IsMoveIn kept bottom (leaves value site) = StandsIn kept bottom site
IsMoveIn kept bottom calls_main = ⊥
IsMoveIn kept bottom (goes_nowhere place) = Unit {0}

-- ---- what is left

-- of the objects of the open statements, the innermost first, some die, and the move is made among the others
pub record LeavesObjects (slots : Frame) (bottom : CBottom) (blocks : Blocks) (one : CStand) : Type 0 where
  pub gone : Frame
  pub kept : Frame
  pub parts : slots ≡ gone ++ kept
  pub dies : one.blocks ≡ without_objects gone blocks
  pub stands : IsMoveIn kept bottom one.move

-- the memory in which a statement does what it does: an object whose declaration is reached is made anew (6.2.4p5, 6.7.8)
abbrev pub cleared_or : Blocks → Result CCleared CWhy → Blocks
cleared_or blocks (Ok one) = one.blocks
cleared_or blocks (Err why) = blocks

abbrev pub made_anew : CSetting → Frame → CStmtForm → Blocks → Blocks
made_anew setting frame (begin number puts) blocks = cleared_or blocks (object_cleared setting frame number puts blocks)
made_anew setting frame form blocks = blocks

-- where the objects of a statement have all begun, it does what it does
abbrev pub goal_anew : CSetting → Frame → CGoal → CStmtForm → Blocks → Blocks
goal_anew setting frame (does_form place) form blocks = made_anew setting frame form blocks
goal_anew setting frame (follows way) form blocks = blocks

abbrev pub begun_anew : CSetting → Frame → List ℕ → CGoal → CStmtForm → Blocks → Blocks
begun_anew setting frame [] goal form blocks = goal_anew setting frame goal form blocks
begun_anew setting frame (first ∷ others) goal form blocks = blocks

-- every move of a body
pub record MovesLeave : Type 0 where
  -- what follows, and the end of the innermost open statement
  pub next : (levels : List CLevel) (bottom : CBottom) (blocks : Blocks) →
      LeavesObjects (slots_in levels) bottom blocks (next_in levels bottom blocks)
  pub ends : (level : CLevel) (outer : List CLevel) (bottom : CBottom) (blocks : Blocks) →
      LeavesObjects (slots_in (level ∷ outer)) bottom blocks (level_ended level outer bottom blocks)
  -- the turns of a loop, in which no object dies
  pub turns : (level : CLevel) (outer : List CLevel) (bottom : CBottom) (blocks : Blocks) →
      LeavesObjects (slots_in (level ∷ outer)) bottom blocks (turning level outer bottom blocks)
  pub turn_ends : (level : CLevel) (outer : List CLevel) (bottom : CBottom) (blocks : Blocks) →
      LeavesObjects (slots_in (level ∷ outer)) bottom blocks (turn_ended level outer bottom blocks)
  pub turns_on : (site : CSite) (blocks : Blocks) →
      LeavesObjects (slots_in site.levels) site.bottom blocks (turning_on site blocks)
  -- `break`, `continue` and `goto`
  pub breaks : (place : Place) (levels : List CLevel) (bottom : CBottom) (blocks : Blocks) →
      LeavesObjects (slots_in levels) bottom blocks (breaking place levels bottom blocks)
  pub continues : (place : Place) (levels : List CLevel) (bottom : CBottom) (blocks : Blocks) →
      LeavesObjects (slots_in levels) bottom blocks (continuing place levels bottom blocks)
  pub jumps : (place : Place) (name : List ℕ) (levels : List CLevel) (bottom : CBottom) (blocks : Blocks) →
      LeavesObjects (slots_in levels) bottom blocks (jumping place name levels bottom blocks)
  -- a way that is followed leaves none
  pub follows : (way : CWay) (site : CSite) → IsMoveIn (slots_in site.levels) site.bottom (following way site)
  -- the puts of an object in a body
  pub puts : (number : ℕ) (all : CPuts) (site : CSite) (blocks : Blocks) →
      LeavesObjects (slots_in site.levels) site.bottom blocks (putting number all (in_body site) blocks)
  -- what a statement does that is open, one whose objects begin, and one that is reached
  pub does : (setting : CSetting) (place : Place) (form : CStmtForm) (level : CLevel) (outer : CSite) (blocks : Blocks) →
      LeavesObjects (slots_in (level ∷ outer.levels)) outer.bottom
      (made_anew setting (slots_in (level ∷ outer.levels)) form blocks) (doing setting place form level outer blocks)
  pub begins : (setting : CSetting) (objects : List ℕ) (goal : CGoal) (level : CLevel) (outer : CSite) (blocks : Blocks) →
      LeavesObjects (slots_in (level ∷ outer.levels)) outer.bottom
      (begun_anew setting (slots_in (level ∷ outer.levels)) objects goal level.form blocks)
      (beginning setting objects goal level outer blocks)
  -- choices
  pub chooses : (form : CStmtForm) (holds : Bool) (level : CLevel) (outer : List CLevel) (bottom : CBottom) (blocks : Blocks) →
      LeavesObjects (slots_in (level ∷ outer)) bottom blocks (choosing form holds level outer bottom blocks)
  pub switches : (form : CStmtForm) (value : ℤ) (level : CLevel) (outer : List CLevel) (bottom : CBottom) (blocks : Blocks) →
      LeavesObjects (slots_in (level ∷ outer)) bottom blocks (switching form value level outer bottom blocks)
  pub choice : (blocks : Blocks) (value : CValue) (levels : List CLevel) (bottom : CBottom) (one : CStand) →
      choice_at blocks value levels bottom ≡ Ok one → LeavesObjects (slots_in levels) bottom blocks one
