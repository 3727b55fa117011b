-- Laws of how statements end, in any frame.
use Rattle.std.specs.Prelude.{◌≡◌, ℕ, true, false, List, Some, None}
use Rattle.cr_runs.specs.Runs.{came}
use Rattle.cr_world.specs.World.{World}
use Rattle.rs_text.specs.Tree.{Loop, Block, Stmt, Stmts}
use Rattle.rs_mean.specs.Run.{Frame, Flow, run_stmt, run_stmts}
use Rattle.rs_mean_ends.specs.Ways.{way_of, stmt_ends, stmts_end, stmts_name}

-- statements end in ways alone in which they can by their form
pub record EndsByForm : Type 0 where
  pub stmt : (frame : Frame) (s : Stmt) (world : World) (units : ℕ) (flow : Flow) (after : World) (left : ℕ) →
      run_stmt frame s world units ≡ came flow after left → stmt_ends s (way_of flow) ≡ true
  pub stmts : (frame : Frame) (ss : Stmts) (world : World) (units : ℕ) (flow : Flow) (after : World) (left : ℕ) →
      run_stmts frame ss world units ≡ came flow after left → stmts_end ss (way_of flow) ≡ true

-- a label that nothing inside names can go: its block runs as the statements in it, and its loop as one without a label; so both run the
-- same under another label that nothing inside names
pub record LabelsGo : Type 0 where
  pub of_block : (frame : Frame) (label : List ℕ) (body : Stmts) → stmts_name label body ≡ false → (world : World) (units : ℕ) →
      run_stmt frame (Block label body) world units ≡ run_stmts frame body world units
  pub of_loop : (frame : Frame) (label : List ℕ) (body : Stmts) → stmts_name label body ≡ false → (world : World) (units : ℕ) →
      run_stmt frame (Loop (Some label) body) world units ≡ run_stmt frame (Loop None body) world units
  pub other_block : (frame : Frame) (label other : List ℕ) (body : Stmts) → stmts_name label body ≡ false → stmts_name other body ≡ false →
      (world : World) (units : ℕ) → run_stmt frame (Block label body) world units ≡ run_stmt frame (Block other body) world units
  pub other_loop : (frame : Frame) (label other : List ℕ) (body : Stmts) → stmts_name label body ≡ false → stmts_name other body ≡ false →
      (world : World) (units : ℕ) → run_stmt frame (Loop (Some label) body) world units ≡ run_stmt frame (Loop (Some other) body) world units
