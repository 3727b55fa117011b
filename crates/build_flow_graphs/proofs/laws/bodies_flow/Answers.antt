use Rattle.build_flow_graphs.proofs.Graphs.{body_closed, body_flows}
use Rattle.build_flow_graphs.proofs.laws.bodies_flow.Goals as goal

pub returns : goal.returns
returns c = record { closed = body_closed; flows = body_flows }
