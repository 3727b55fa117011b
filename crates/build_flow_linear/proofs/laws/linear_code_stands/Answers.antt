use Rattle.build_flow_linear.proofs.Places.{body_places}
use Rattle.build_flow_linear.proofs.laws.linear_code_stands.Goals as goal

pub returns : goal.returns
returns c = body_places
