use Rattle.emit_places.proofs.Bodies.{empty_is}
use Rattle.emit_places.proofs.loops.is_empty.Goals as goal

pub returns : goal.returns
returns c = empty_is c.args.body.now c.is_empty.result c.is_empty.ensures.0 c.is_empty.ensures.1
