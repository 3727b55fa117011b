-- Blocks and loops whose labels nothing names run as those that are written.
use Rattle.std.proofs.Common.{◌≡◌, ◌∙◌, ℕ, Bool, true, false, Some, None, if◌then◌else◌, refl, sym, ap}
use Rattle.rs_text.specs.Tree.{Loop, Block, Stmts, more_stmts}
use Rattle.rs_mean.specs.Laws.{behind}
use Rattle.rs_mean.specs.Run.{Frame, Flow, run_stmt, run_stmts, then_on}
use Rattle.rs_mean.specs.World.{Run, seq}
use Rattle.rs_mean.proofs.Unfolded.{lists_follow}
use Rattle.rs_mean_ends.specs.Ways.{stmts_name}
use Rattle.rs_mean_ends.proofs.Labels.{block_goes, loop_goes}
use Rattle.emit_rules.specs.Jumps.{label_of}
use Rattle.emit_rules.specs.Texts.{one_stmt, block_then, loop_of}
use Rattle.emit_laws.proofs.Ifs.{run_one}
use Rattle.emit_laws.proofs.Runs.{same_runs}

pub run_behind : (frame : Frame) (first others : Stmts) → run_stmts frame (behind first others) ≡ seq (run_stmts frame first) (then_on (run_stmts frame others))
run_behind frame first others = same_runs _ _ (λ world units. lists_follow frame first others world units)

module _ (frame : Frame) (label : ℕ) (body : Stmts) where
  pub block_runs : (rest : Stmts) → run_stmts frame (block_then label body rest) ≡ seq (run_stmt frame (Block (label_of label) body)) (then_on (run_stmts frame rest))
  block_runs rest = by_name (stmts_name (label_of label) body) refl
    where
      by_name : (named : Bool) → stmts_name (label_of label) body ≡ named →
          run_stmts frame (if named then more_stmts (Block (label_of label) body) rest else behind body rest)
          ≡ seq (run_stmt frame (Block (label_of label) body)) (then_on (run_stmts frame rest))
      by_name true is = refl
      by_name false is = run_behind frame body rest ∙ ap (λ (run : Run Flow). seq run (then_on (run_stmts frame rest))) (sym (same_runs _ _ (block_goes frame (label_of label) body is)))

  pub loop_runs : run_stmts frame (one_stmt (loop_of label body)) ≡ run_stmt frame (Loop (Some (label_of label)) body)
  loop_runs = run_one frame (loop_of label body) ∙ by_name (stmts_name (label_of label) body) refl
    where
      by_name : (named : Bool) → stmts_name (label_of label) body ≡ named →
          run_stmt frame (Loop (if named then Some (label_of label) else None) body) ≡ run_stmt frame (Loop (Some (label_of label)) body)
      by_name true is = refl
      by_name false is = sym (same_runs _ _ (loop_goes frame (label_of label) body is))
