use Rattle.cx_moves.proofs.Reaching.{opened_more}
use Rattle.cx_moves.proofs.ways.through.Goals as goal

pub returns-in-Ok : goal.returns-in-Ok
returns-in-Ok c = opened_more _ _ _ _ c.in-Ok.ensures.ok
