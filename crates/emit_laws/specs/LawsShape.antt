-- Laws of the text that is written from a flow and its shape: which statements stand in it.
use Rattle.std.specs.Prelude.{◌≡◌, ℕ, ◌+◌, ◌<◌, Bool, true, false, List, [], ◌∷◌, codes, Some, None}
use Rattle.reloop.specs.Fits.{IsFit}
use Rattle.reloop.specs.Shapes.{ShapeTree, simple, blocks, loop, dispatch, ShapeTrees, no_shapes, more_shapes, has_dispatch, goes_round}
use Rattle.rs_text.specs.Tree.{Stmt}
use Rattle.flow.specs.Flows.{BranchTree, go, if_test, switch, gives, NodeTree, FlowTree, node_at, graph_of}
use Rattle.emit_rules.specs.Bodies.{emitted}
use Rattle.emit_laws.specs.Counts.{count_of, is_loop, is_match, expr_uses, stmt_uses}

-- the statements of nodes are without those of a kind
abbrev pub BodiesWithout : (Stmt → Bool) → FlowTree → Type 0
BodiesWithout is flow = (number : ℕ) (node : NodeTree) → node_at flow number ≡ Some node → count_of is node.body ≡ 0

-- the loops of a shape, and its dispatches
abbrev mutual
  pub rounds_of : ShapeTree → ℕ
  rounds_of (simple node) = 0
  rounds_of (blocks members) = rounds_among members
  rounds_of (loop head body) = 1 + rounds_of body
  rounds_of (dispatch heads body) = 1 + rounds_of body

  pub rounds_among : ShapeTrees → ℕ
  rounds_among no_shapes = 0
  rounds_among (more_shapes member others) = rounds_of member + rounds_among others

-- 1 of a branch that chooses among cases
abbrev pub branch_switches : BranchTree → ℕ
branch_switches (go to) = 0
branch_switches (if_test test if_true if_false) = 0
branch_switches (switch choices) = 1
branch_switches (gives value) = 0

-- how many of these nodes choose among cases
abbrev pub switches : List NodeTree → ℕ
switches [] = 0
switches (node ∷ others) = branch_switches node.last + switches others

-- the local that says at which head a dispatch is entered
abbrev pub block_name : List ℕ
block_name = codes "current_block"

abbrev pub branch_uses : List ℕ → BranchTree → Bool
branch_uses x (go to) = false
branch_uses x (if_test test if_true if_false) = expr_uses x test
branch_uses x (switch choices) = expr_uses x choices.on
branch_uses x (gives None) = false
branch_uses x (gives (Some value)) = expr_uses x value

-- the nodes of a flow don't name `current_block`
pub record IsUnused (flow : FlowTree) : Type 0 where
  pub bodies : BodiesWithout (stmt_uses block_name) flow
  pub branches : (number : ℕ) (node : NodeTree) → node_at flow number ≡ Some node → branch_uses block_name node.last ≡ false

-- what stands in the text by what the shape, which fits, has
pub record TextShaped : Type 0 where
  -- `current_block` is named where the shape has a dispatch, and nowhere else
  pub told : (flow : FlowTree) (shape : ShapeTree) → IsFit (graph_of flow) shape → has_dispatch shape ≡ true → 0 < count_of (stmt_uses block_name) (emitted flow shape)
  pub untold : (flow : FlowTree) (shape : ShapeTree) → IsFit (graph_of flow) shape → IsUnused flow → has_dispatch shape ≡ false → count_of (stmt_uses block_name) (emitted flow shape) ≡ 0
  -- without a dispatch there is one `loop` for each loop of the shape, and one `match` for each node that chooses among cases
  pub loops : (flow : FlowTree) (shape : ShapeTree) → IsFit (graph_of flow) shape → BodiesWithout is_loop flow → has_dispatch shape ≡ false → count_of is_loop (emitted flow shape) ≡ rounds_of shape
  pub matches : (flow : FlowTree) (shape : ShapeTree) → IsFit (graph_of flow) shape → BodiesWithout is_match flow → has_dispatch shape ≡ false → count_of is_match (emitted flow shape) ≡ switches flow.nodes
  -- where the shape doesn't go round there is no `loop`
  pub straight : (flow : FlowTree) (shape : ShapeTree) → IsFit (graph_of flow) shape → BodiesWithout is_loop flow → goes_round shape ≡ false → count_of is_loop (emitted flow shape) ≡ 0
