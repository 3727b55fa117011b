-- What stands behind a part of linear code, as values of the declared types hold it.
use Rattle.std.specs.Prelude.{ℕ, Bool, List, [], ◌∷◌, ◌++◌, map, Option, Some, None, reverse}
use Rattle.build_flow_nodes.specs.Points.{FlowPlace}
use Rattle.build_flow_reached.specs.Behind.{BehindTree}
use Rattle.build_flow_reached.specs.Numbers.{is_reached, node_number}
use Rattle.build_flow_reached.specs.declared.behind.Behind.{Behind}
use Rattle.build_flow_reached.specs.declared.numbers.Places.{Places}
use Rattle.flow.specs.Flows.{BranchTree, gives}
use Rattle.flow.specs.Views.{branch_view, node_view}
use Rattle.flow.specs.declared.flows.Branch.{Branch}
use Rattle.flow.specs.declared.flows.FlowNode.{FlowNode}
use Rattle.rs_text.specs.Tree.{Stmt}
use Rattle.rs_tree.specs.Views.{stmt_view}
use Rattle.rs_tree.specs.declared.stmt.RStmt.{RStmt}

abbrev pub number_of : Places → FlowPlace → ℕ
number_of places place = node_number places.index.now places.numbers.now place

abbrev pub is_reached_in : Places → FlowPlace → Bool
is_reached_in places place = is_reached places.index.now places.numbers.now place

-- bodies, the last one's first, in front of statements
abbrev pub joined : List (List RStmt) → List Stmt → List Stmt
joined [] rest = rest
joined (one ∷ others) rest = joined others (map stmt_view one ++ rest)

-- what is done behind them: by a branch, or as the first of the nodes does
abbrev pub base_body : Option Branch → List FlowNode → List Stmt
base_body (Some branch) nodes = []
base_body None [] = []
base_body None (one ∷ others) = map stmt_view one.body

abbrev pub base_last : Option Branch → List FlowNode → BranchTree
base_last (Some branch) nodes = branch_view branch
base_last None [] = gives None
base_last None (one ∷ others) = branch_view one.last

abbrev pub behind_view : Behind → BehindTree
behind_view behind = record {
  body = joined behind.bodies (base_body behind.last (reverse behind.nodes));
  last = base_last behind.last (reverse behind.nodes);
  nodes = map node_view (reverse behind.nodes);
}

abbrev pub start : BehindTree
start = record { body = []; last = gives None; nodes = [] }
