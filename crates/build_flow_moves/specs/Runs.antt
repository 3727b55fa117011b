-- What runs from a place of a body on: the statements of a point, and what follows the place to which its branch goes.
use Rattle.std.specs.Prelude.{List, [], ◌∷◌, Option, Some, None, if◌then◌else◌}
use Rattle.build_flow_nodes.specs.Points.{FlowPlace, PlacedCase, PlacedBranch, goes, tests as tests_by, chooses, returns as gives_back, Point}
use Rattle.rs_mean.specs.declared.cause.Cause.TheVariants.{WrongCall}
use Rattle.rs_mean.specs.Run.{Frame, Flow, normal, breaks, continues, returned, run_expr, run_stmts, tests, is_arm}
use Rattle.rs_mean.specs.Values.{Typed}
use Rattle.rs_mean.specs.World.{Run, pure, fails, seq}
use Rattle.rs_text.specs.Tree.{Expr, stmts}

-- the first case whose value is the operand's, or else the other place
abbrev pub place_chosen : Typed → List PlacedCase → FlowPlace → FlowPlace
place_chosen operand [] other = other
place_chosen operand (one ∷ others) other = if is_arm one.value operand then one.to else place_chosen operand others other

-- what a function gives back
abbrev pub run_given : Frame → Option Expr → Run (Option Typed)
run_given frame None = pure None
run_given frame (Some e) = seq (run_expr frame e) (λ value. pure (Some value))

module _ (frame : Frame) {B : Type 0} (next : FlowPlace → Run B) (back : Option Typed → Run B) where
  -- a branch, and what follows
  abbrev pub run_last : PlacedBranch → Run B
  run_last (goes to) = next to
  run_last (tests_by test if_true if_false) =
      seq (run_expr frame test) (λ value. seq (tests value) (λ holds. next (if holds then if_true else if_false)))
  run_last (chooses one) = seq (run_expr frame one.on) (λ operand. next (place_chosen operand one.cases one.other))
  run_last (gives_back value) = seq (run_given frame value) back

  -- what follows statements that leave no loop or block outside of them
  abbrev pub then_run : Run B → Flow → Run B
  then_run run normal = run
  then_run run (breaks label) = fails WrongCall
  then_run run (continues label) = fails WrongCall
  then_run run (returned value) = back value

  -- a point, and what follows
  abbrev pub run_point : Point → Run B
  run_point point = seq (run_stmts frame (stmts point.body)) (then_run (run_last point.last))
