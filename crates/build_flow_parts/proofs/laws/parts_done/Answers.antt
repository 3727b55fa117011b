use Rattle.build_flow_parts.proofs.Bodies.{stmt_done}
use Rattle.build_flow_parts.proofs.laws.parts_done.Goals as goal

pub returns : goal.returns
returns c = λ a units steps mean started params_are s scope number is. stmt_done a units steps mean started params_are s scope number is
