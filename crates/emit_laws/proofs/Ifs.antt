-- An `if` as it is written runs as one with both sides.
use Rattle.std.proofs.Common.{◌≡◌, ◌∙◌, Bool, true, false, if◌then◌else◌, refl}
use Rattle.cr_runs.specs.Runs.{Ran, came, halted, bad, out, bind}
use Rattle.cr_world.specs.World.{World, Stop}
use Rattle.rs_text.specs.Tree.{Expr, Stmt, If, Stmts, no_stmts, more_stmts}
use Rattle.rs_mean.specs.declared.cause.Cause.{Cause}
use Rattle.rs_mean.specs.Run.{Frame, Flow, normal, breaks, continues, returned, run_expr, run_stmt, run_stmts, then_on, tests}
use Rattle.rs_mean.specs.World.{Run, pure, seq, either}
use Rattle.rs_mean_ends.specs.Ways.{Way, goes, stmts_end}
use Rattle.rs_mean_ends.proofs.Ending.{ComesBy, stmts_come}
use Rattle.emit_rules.specs.Texts.{one_stmt, negated, if_of}
use Rattle.emit_laws.proofs.Conditions.{by_test, by_negated}
use Rattle.emit_laws.proofs.Runs.{same_runs, seq_seq, seq_with, seq_pure, pure_seq}

-- nothing behind
then_nothing : (flow : Flow) → then_on (pure normal) flow ≡ pure flow
then_nothing normal = refl
then_nothing (breaks label) = refl
then_nothing (continues label) = refl
then_nothing (returned value) = refl

pub run_one : (frame : Frame) (s : Stmt) → run_stmts frame (one_stmt s) ≡ run_stmt frame s
run_one frame s = seq_with (run_stmt frame s) _ _ then_nothing ∙ seq_pure (run_stmt frame s)

-- what stands behind statements that don't come to their end isn't reached
not_reached : (can : Way → Bool) → can goes ≡ false → (rest : Run Flow) (run : Ran (Stop Cause) World Flow) → ComesBy can run → bind run (then_on rest) ≡ run
unfolding pure
not_reached can never rest (came normal world left) is = absurd (both_ways (can goes) is never)
  where
    both_ways : (b : Bool) → b ≡ true → b ≡ false → ⊥
    both_ways true is none = cc
    both_ways false is none = cc
not_reached can never rest (came (breaks label) world left) is = refl
not_reached can never rest (came (continues label) world left) is = refl
not_reached can never rest (came (returned value) world left) is = refl
not_reached can never rest (halted status world) is = refl
not_reached can never rest (bad why world) is = refl
not_reached can never rest (out world) is = refl

pub never_ends : (frame : Frame) (ss : Stmts) (rest : Run Flow) → stmts_end ss goes ≡ false → seq (run_stmts frame ss) (then_on rest) ≡ run_stmts frame ss
unfolding seq
never_ends frame ss rest never = same_runs _ _ (λ world units. not_reached (stmts_end ss) never rest (run_stmts frame ss world units) (stmts_come frame ss world units))

module _ (frame : Frame) (condition : Expr) where
  abbrev both_sides : Run Flow → Run Flow → Run Flow
  both_sides if_true if_false = seq (run_expr frame condition) (by_test if_true if_false)

  -- statements behind an `if`
  behind_if : (e : Expr) (if_true if_false rest one other : Run Flow) → seq if_true (then_on rest) ≡ one → seq if_false (then_on rest) ≡ other →
      seq (seq (run_expr frame e) (by_test if_true if_false)) (then_on rest) ≡ seq (run_expr frame e) (by_test one other)
  behind_if e if_true if_false rest one other one_is other_is =
      seq_seq (run_expr frame e) _ _
      ∙ seq_with (run_expr frame e) _ _ (λ value. seq_seq (tests value) _ _ ∙ seq_with (tests value) _ _ sides)
    where
      sides : (test : Bool) → seq (either test if_true if_false) (then_on rest) ≡ either test one other
      sides true = one_is
      sides false = other_is

  abbrev written : Bool → Bool → Stmts → Stmts → Stmts
  written one other a b =
      if one then (if other then one_stmt (If condition a b) else more_stmts (If (negated condition) b no_stmts) a) else more_stmts (If condition a no_stmts) b

  by_ends : (a b : Stmts) (one other : Bool) → stmts_end a goes ≡ one → stmts_end b goes ≡ other →
      run_stmts frame (written one other a b) ≡ both_sides (run_stmts frame a) (run_stmts frame b)
  by_ends a b true true is so = run_one frame (If condition a b)
  by_ends a b true false is so =
      behind_if (negated condition) (run_stmts frame b) (pure normal) (run_stmts frame a) (run_stmts frame b) (run_stmts frame a) (never_ends frame b (run_stmts frame a) so) (pure_seq normal _)
      ∙ by_negated frame (run_stmts frame b) (run_stmts frame a) condition
  by_ends a b false other is so =
      behind_if condition (run_stmts frame a) (pure normal) (run_stmts frame b) (run_stmts frame a) (run_stmts frame b) (never_ends frame a (run_stmts frame b) is) (pure_seq normal _)

  pub if_runs : (a b : Stmts) → run_stmts frame (if_of condition a b) ≡ both_sides (run_stmts frame a) (run_stmts frame b)
  if_runs no_stmts no_stmts = run_one frame (If condition no_stmts no_stmts)
  if_runs no_stmts (more_stmts s ss) = run_one frame (If (negated condition) (more_stmts s ss) no_stmts) ∙ by_negated frame (run_stmts frame (more_stmts s ss)) (run_stmts frame no_stmts) condition
  if_runs (more_stmts s ss) no_stmts = run_one frame (If condition (more_stmts s ss) no_stmts)
  if_runs (more_stmts s ss) (more_stmts other others) =
      by_ends (more_stmts s ss) (more_stmts other others) (stmts_end (more_stmts s ss) goes) (stmts_end (more_stmts other others) goes) refl refl
