-- The flow of any body is one that control flows through.
use Rattle.build_flow_nodes.specs.Flows.{flow_of}
use Rattle.build_flow_nodes.specs.Parts.{BodyNames}
use Rattle.cx_core.specs.Trees.{CStmt}
use Rattle.flow.specs.Flows.{IsClosed, graph_of}
use Rattle.reloop.specs.Graphs.{IsFlow}

pub record BodiesFlow : Type 0 where
  -- the entry and the targets of all branches are nodes
  pub closed : (of : BodyNames) (body : CStmt) → IsClosed (flow_of of body)
  -- and so are the ends of all edges, and each node is reached from the entry
  pub flows : (of : BodyNames) (body : CStmt) → IsFlow (graph_of (flow_of of body))
