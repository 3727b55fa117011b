-- A node of the flow of a body runs as the point at its place, and then what follows.
use Rattle.std.proofs.Common.{◌≡◌, ◌∙◌, ℕ, Bool, true, false, List, [], ◌∷◌, map, Option, Some, None, if◌then◌else◌, refl, sym, ap}
use Rattle.build_flow_moves.specs.Runs.{place_chosen, run_given, run_last, then_run, run_point}
use Rattle.build_flow_nodes.specs.Flows.{number_of, numbered_case, numbered_branch, node_of}
use Rattle.build_flow_nodes.specs.Points.{FlowPlace, PlacedCase, PlacedBranch, goes, tests as tests_by, chooses, returns as gives_back_by, Point, Placed, placed}
use Rattle.cr_runs.proofs.Rules.{bind_bind}
use Rattle.cr_runs.specs.Runs.{Ran, came, halted, bad, out, bind}
use Rattle.cr_world.specs.World.{World, Stop}
use Rattle.flow.specs.Machine.{Onto, to_node, gives_back, chosen, run_branch, then_branch, run_node}
use Rattle.rs_mean.specs.declared.cause.Cause.{Cause}
use Rattle.rs_mean.specs.Run.{Frame, Flow, normal, breaks, continues, returned, run_expr, run_stmts, tests, is_arm}
use Rattle.rs_mean.specs.Values.{Typed}
use Rattle.rs_mean.specs.World.{Run, pure, fails, seq}
use Rattle.rs_text.specs.Tree.{stmts}

binds_same : {A B : Type 0} (r : Ran (Stop Cause) World A) (go on : A → Run B) → ((value : A) (world : World) (units : ℕ) → go value world units ≡ on value world units) → bind r go ≡ bind r on
binds_same (came value world left) go on same = same value world left
binds_same (halted status world) go on same = refl
binds_same (bad why world) go on same = refl
binds_same (out world) go on same = refl

module _ (frame : Frame) (all : List Placed) {B : Type 0} (next : Onto → Run B) where
  abbrev pub to_place : FlowPlace → Run B
  to_place place = next (to_node (number_of place all))

  abbrev pub with_given : Option Typed → Run B
  with_given value = next (gives_back value)

  number_chosen : (operand : Typed) (cases : List PlacedCase) (other : FlowPlace) → chosen operand (map (numbered_case all) cases) (number_of other all) ≡ number_of (place_chosen operand cases other) all
  number_chosen operand [] other = refl
  number_chosen operand (one ∷ cases) other = by (is_arm one.value operand) (number_chosen operand cases other)
    where
      by : (is : Bool) → chosen operand (map (numbered_case all) cases) (number_of other all) ≡ number_of (place_chosen operand cases other) all →
          (if is then number_of one.to all else chosen operand (map (numbered_case all) cases) (number_of other all)) ≡ number_of (if is then one.to else place_chosen operand cases other) all
      by true more = refl
      by false more = more

  by_test : (holds : Bool) (if_true if_false : FlowPlace) (world : World) (units : ℕ) →
      next (to_node (if holds then number_of if_true all else number_of if_false all)) world units ≡ to_place (if holds then if_true else if_false) world units
  by_test true if_true if_false world units = refl
  by_test false if_true if_false world units = refl

  branch_runs : (branch : PlacedBranch) (world : World) (units : ℕ) → bind (run_branch frame (numbered_branch all branch) world units) next ≡ run_last frame to_place with_given branch world units
  unfolding seq pure
  branch_runs (goes to) world units = refl
  branch_runs (tests_by e if_true if_false) world units =
      bind_bind (run_expr frame e world units) _ next
      ∙ binds_same (run_expr frame e world units) _ _
      (λ value after left.
      bind_bind (tests value after left) (λ holds. pure (to_node (if holds then number_of if_true all else number_of if_false all))) next
      ∙ binds_same (tests value after left) _ (λ holds. to_place (if holds then if_true else if_false)) (λ holds later more. by_test holds if_true if_false later more))
  branch_runs (chooses one) world units =
      bind_bind (run_expr frame one.on world units) _ next
      ∙ binds_same (run_expr frame one.on world units) _ (λ operand. to_place (place_chosen operand one.cases one.other))
      (λ operand after left. ap (λ (number : ℕ). next (to_node number) after left) (number_chosen operand one.cases one.other))
  branch_runs (gives_back_by None) world units = refl
  branch_runs (gives_back_by (Some e)) world units =
      bind_bind (run_expr frame e world units) _ next ∙ sym (bind_bind (run_expr frame e world units) (λ value. pure (Some value)) with_given)

  then_runs : (branch : PlacedBranch) (flow : Flow) (world : World) (units : ℕ) →
      bind (then_branch (run_branch frame (numbered_branch all branch)) flow world units) next ≡ then_run frame to_place with_given (run_last frame to_place with_given branch) flow world units
  unfolding seq pure fails
  then_runs branch normal world units = branch_runs branch world units
  then_runs branch (breaks label) world units = refl
  then_runs branch (continues label) world units = refl
  then_runs branch (returned value) world units = refl

  pub node_runs : (place : FlowPlace) (point : Point) (world : World) (units : ℕ) →
      seq (run_node frame (node_of all (placed place point))) next world units ≡ run_point frame to_place with_given point world units
  unfolding seq
  node_runs place point world units =
      bind_bind (run_stmts frame (stmts point.body) world units) _ next
      ∙ binds_same (run_stmts frame (stmts point.body) world units) _ _ (λ flow after left. then_runs point.last flow after left)
