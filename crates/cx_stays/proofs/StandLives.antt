-- What comes next in a body leaves no dead block alive, and each that lives on as large as it was.
use Rattle.std.proofs.Common.{ℕ, ℤ, Bool, List, Option, Result, Ok, Err}
use Rattle.cx_core.specs.Trees.{CPuts, CStmt, CStmtForm}
use Rattle.cx_mean.proofs.KeptNodes.{IfGiven}
use Rattle.cx_mean.specs.Initialisers.{CCleared, object_cleared}
use Rattle.cx_mean.specs.Moves.{CBehind, CGoal, CStand, without_objects, next_in, putting, beginning, reached, choosing, switching, turning_on}
use Rattle.cx_mean.specs.Operands.{CWhy, Frame}
use Rattle.cx_mean.specs.Paths.{CLevel, CBottom, CSite}
use Rattle.cx_mean.specs.Settings.{CSetting}
use Rattle.cr_world.specs.Held.{without_block}
use Rattle.mem_bytes.specs.Memory.{Blocks}
use Rattle.cx_stays.proofs.Lives.{lives_same, lives_then, lives_killed}
use Rattle.cx_stays.proofs.Stands.{Cleared, without_stands, next_stands, putting_stands, beginning_stands, reached_stands, choosing_stands, switching_stands, turning_on_stands}
use Rattle.cx_stays.proofs.StoreLives.{ClearLives, clear_lives}
use Rattle.cx_stays.specs.Stays.{LivesAgree}

abbrev pub StandLives : Blocks → CStand → Type 0
StandLives blocks one = LivesAgree blocks one.blocks

dies : (before blocks : Blocks) (number : ℕ) → LivesAgree before blocks → LivesAgree before (without_block number blocks)
dies before blocks number lives = lives_then before blocks (without_block number blocks) lives (lives_killed blocks number)

clears_by : (before blocks : Blocks) (outcome : Result CCleared CWhy) → LivesAgree before blocks → IfGiven (ClearLives blocks) outcome → IfGiven (Cleared (LivesAgree before)) outcome
clears_by before blocks (Ok one) lives more = lives_then before blocks one.blocks lives more
clears_by before blocks (Err why) lives more = tt

clears : (before : Blocks) (setting : CSetting) (frame : Frame) (number : ℕ) (puts : Option CPuts) (blocks : Blocks) → LivesAgree before blocks
    → IfGiven (Cleared (LivesAgree before)) (object_cleared setting frame number puts blocks)
clears before setting frame number puts blocks lives = clears_by before blocks (object_cleared setting frame number puts blocks) lives (clear_lives setting frame number puts blocks)

module _ (blocks : Blocks) where
  pub without_lives : (slots : Frame) → LivesAgree blocks (without_objects slots blocks)
  without_lives slots = without_stands (LivesAgree blocks) (dies blocks) (clears blocks) slots blocks (lives_same blocks)

  pub next_lives : (levels : List CLevel) (bottom : CBottom) → StandLives blocks (next_in levels bottom blocks)
  next_lives levels bottom = (next_stands (LivesAgree blocks) (dies blocks) (clears blocks) levels bottom blocks (lives_same blocks)).0

  pub putting_lives : (number : ℕ) (puts : CPuts) (behind : CBehind) → StandLives blocks (putting number puts behind blocks)
  putting_lives number puts behind = (putting_stands (LivesAgree blocks) (dies blocks) (clears blocks) number puts behind blocks (lives_same blocks)).0

  pub beginning_lives : (setting : CSetting) (objects : List ℕ) (goal : CGoal) (level : CLevel) (outer : CSite) → StandLives blocks (beginning setting objects goal level outer blocks)
  beginning_lives setting objects goal level outer = (beginning_stands (LivesAgree blocks) (dies blocks) (clears blocks) setting objects goal level outer blocks (lives_same blocks)).0

  pub reached_lives : (setting : CSetting) (one : CStmt) (site : CSite) → StandLives blocks (reached setting one site blocks)
  reached_lives setting one site = (reached_stands (LivesAgree blocks) (dies blocks) (clears blocks) setting one site blocks (lives_same blocks)).0

  pub choosing_lives : (form : CStmtForm) (holds : Bool) (level : CLevel) (outer : List CLevel) (bottom : CBottom) → StandLives blocks (choosing form holds level outer bottom blocks)
  choosing_lives form holds level outer bottom = (choosing_stands (LivesAgree blocks) (dies blocks) (clears blocks) form holds level outer bottom blocks (lives_same blocks)).0

  pub switching_lives : (form : CStmtForm) (value : ℤ) (level : CLevel) (outer : List CLevel) (bottom : CBottom) → StandLives blocks (switching form value level outer bottom blocks)
  switching_lives form value level outer bottom = (switching_stands (LivesAgree blocks) (dies blocks) (clears blocks) form value level outer bottom blocks (lives_same blocks)).0

  pub turning_on_lives : (site : CSite) → StandLives blocks (turning_on site blocks)
  turning_on_lives site = (turning_on_stands (LivesAgree blocks) (dies blocks) (clears blocks) site blocks (lives_same blocks)).0
