use Rattle.lift_calls.proofs.Nodes.{call_node_owes}
use Rattle.lift_calls.proofs.laws.call_nodes_owe.Goals as goal

pub returns : goal.returns
returns c = call_node_owes
