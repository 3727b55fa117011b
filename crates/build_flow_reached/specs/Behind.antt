-- What stands behind a part of linear code: what is done from there on, and the nodes of the places that are reached.
use Rattle.std.specs.Prelude.{ℕ, Bool, if◌then◌else◌, List, [], ◌∷◌, ◌++◌, map}
use Rattle.build_flow_linear.specs.Linear.{Instr, marks, does, leaves}
use Rattle.build_flow_nodes.specs.Points.{FlowPlace, PlacedCase, PlacedBranch, goes, tests, chooses, returns}
use Rattle.flow.specs.Flows.{BranchTree, go, if_test, switch, gives, CaseTree, NodeTree}
use Rattle.rs_text.specs.Tree.{Stmt, stmts}

abbrev pub case_with : (FlowPlace → ℕ) → PlacedCase → CaseTree
case_with number one = record { value = one.value; to = number one.to }

-- a branch to nodes by their numbers
abbrev pub branch_with : (FlowPlace → ℕ) → PlacedBranch → BranchTree
branch_with number (goes to) = go (number to)
branch_with number (tests test if_true if_false) = if_test test (number if_true) (number if_false)
branch_with number (chooses one) =
    switch (record { on = one.on; by = one.by; cases = map (case_with number) one.cases; other = number one.other })
branch_with number (returns value) = gives value

pub record BehindTree : Type 0 where
  pub body : List Stmt
  pub last : BranchTree
  -- those of the text behind, in its order
  pub nodes : List NodeTree

abbrev pub node_here : BehindTree → NodeTree
node_here behind = record { body = stmts behind.body; last = behind.last }

module _ (number : FlowPlace → ℕ) (is_reached : FlowPlace → Bool) where
  abbrev pub in_front : Instr → BehindTree → BehindTree
  in_front (marks place) behind = if is_reached place then record behind { nodes = node_here behind ∷ behind.nodes } else behind
  in_front (does body) behind = record behind { body = body ++ behind.body }
  in_front (leaves branch) behind = record behind { body = []; last = branch_with number branch }

  abbrev pub all_in_front : List Instr → BehindTree → BehindTree
  all_in_front [] behind = behind
  all_in_front (one ∷ others) behind = in_front one (all_in_front others behind)
