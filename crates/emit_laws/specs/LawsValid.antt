-- Laws of the text that is written from a flow and its shape: it can be written and read where the statements and branches of the flow's nodes can.
use Rattle.std.specs.Prelude.{◌≡◌, ℕ, ◌^◌, ◌≤◌, Bool, true, ◌&&◌, [], List, ◌∷◌, length, Some}
use Rattle.reloop.specs.Fits.{IsFit}
use Rattle.reloop.specs.Shapes.{ShapeTree, has_dispatch}
use Rattle.rs_text.specs.Valid.{is_value, valid_expr, valid_returned, valid_stmts}
use Rattle.flow.specs.Flows.{CaseTree, BranchTree, go, if_test, switch, gives, NodeTree, FlowTree, node_at, graph_of}
use Rattle.emit_rules.specs.Bodies.{emitted}
use Rattle.emit_laws.specs.LawsText.{NodesClosed}

abbrev pub cases_valid : List CaseTree → Bool
cases_valid [] = true
cases_valid (one ∷ others) = is_value one.value && cases_valid others

-- the expressions of a branch are valid, and the values of its cases
abbrev pub branch_valid : BranchTree → Bool
branch_valid (go to) = true
branch_valid (if_test test if_true if_false) = valid_expr test
branch_valid (switch choices) = valid_expr choices.on && cases_valid choices.cases
branch_valid (gives value) = valid_returned value

-- the statements of each node and its branch are valid
pub record NodesValid (flow : FlowTree) : Type 0 where
  pub bodies : (number : ℕ) (node : NodeTree) → node_at flow number ≡ Some node → valid_stmts node.body ≡ true
  pub branches : (number : ℕ) (node : NodeTree) → node_at flow number ≡ Some node → branch_valid node.last ≡ true

-- the text is valid
pub record TextValid : Type 0 where
  pub valid : (flow : FlowTree) (shape : ShapeTree) → NodesValid flow → NodesClosed flow → IsFit (graph_of flow) shape → (has_dispatch shape ≡ true → length flow.nodes ≤ 2 ^ 32) → valid_stmts (emitted flow shape) ≡ true
