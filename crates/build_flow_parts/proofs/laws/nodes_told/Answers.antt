use Rattle.build_flow_parts.proofs.Tells.{nodes_told}
use Rattle.build_flow_parts.proofs.laws.nodes_told.Goals as goal

pub returns : goal.returns
returns c = nodes_told
