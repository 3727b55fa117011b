use Rattle.build_flow_laws.proofs.Bodies.{text_follows}
use Rattle.build_flow_laws.proofs.laws.text_follows.Goals as goal

pub returns : goal.returns
returns c = text_follows
