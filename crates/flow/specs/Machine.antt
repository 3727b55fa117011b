-- The flow's machine: a node's statements run, then its branch chooses the next node or gives back a value; each branch takes a unit.
use Rattle.std.specs.Prelude.{ℕ, List, [], ◌∷◌, Option, Some, None, if◌then◌else◌}
use Rattle.rs_mean.specs.declared.cause.Cause.TheVariants.{WrongCall}
use Rattle.rs_mean.specs.Run.{Frame, Flow, normal, breaks, continues, returned, run_expr, run_stmts, tests, is_arm}
use Rattle.rs_mean.specs.Values.{Typed}
use Rattle.rs_mean.specs.World.{Run, pure, fails, seq, Round, again, done, rounds}
use Rattle.flow.specs.Flows.{CaseTree, BranchTree, go, if_test, switch, gives, NodeTree, FlowTree, node_at}

-- where control goes from a node
pub data Onto : Type 0 where
  to_node : ℕ → Onto
  -- the function gives back a value, if any
  gives_back : Option Typed → Onto

-- the first case whose value is the operand's, or else the other node
abbrev pub chosen : Typed → List CaseTree → ℕ → ℕ
chosen operand [] other = other
chosen operand (one ∷ others) other = if is_arm one.value operand then one.to else chosen operand others other

-- a branch chooses
abbrev pub run_branch : Frame → BranchTree → Run Onto
run_branch frame (go to) = pure (to_node to)
run_branch frame (if_test test if_true if_false) =
    seq (run_expr frame test) (λ value. seq (tests value) (λ holds. pure (to_node (if holds then if_true else if_false))))
run_branch frame (switch choice) =
    seq (run_expr frame choice.on) (λ operand. pure (to_node (chosen operand choice.cases choice.other)))
run_branch frame (gives None) = pure (gives_back None)
run_branch frame (gives (Some e)) = seq (run_expr frame e) (λ value. pure (gives_back (Some value)))

-- the branch follows where control goes on behind the statements; these leave no loop or block outside of them
abbrev pub then_branch : Run Onto → Flow → Run Onto
then_branch branch normal = branch
then_branch branch (breaks label) = fails WrongCall
then_branch branch (continues label) = fails WrongCall
then_branch branch (returned value) = pure (gives_back value)

abbrev pub run_node : Frame → NodeTree → Run Onto
run_node frame node = seq (run_stmts frame node.body) (then_branch (run_branch frame node.last))

abbrev pub run_found : Frame → Option NodeTree → Run Onto
run_found frame None = fails WrongCall
run_found frame (Some node) = run_node frame node

-- the node of a number runs
abbrev pub run_at : Frame → FlowTree → ℕ → Run Onto
run_at frame flow number = run_found frame (node_at flow number)

-- a turn of the machine: a node that is entered runs, and what is given back is the result
abbrev pub turn : Frame → FlowTree → Onto → Run (Round Onto (Option Typed))
turn frame flow (to_node number) = seq (run_at frame flow number) (λ onto. pure (again onto))
turn frame flow (gives_back value) = pure (done value)

-- the machine: a unit is taken for each branch, in front of the node that it enters or of the return, and one in front of the first node
abbrev pub run_flow : Frame → FlowTree → Run (Option Typed)
run_flow frame flow = rounds (turn frame flow) (to_node flow.entry)
