use Rattle.build_flow_parts.proofs.Returns.{end_done}
use Rattle.build_flow_parts.proofs.laws.ends_done.Goals as goal

pub returns : goal.returns
returns c = end_done
