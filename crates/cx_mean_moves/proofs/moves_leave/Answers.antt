use Rattle.cx_mean_moves.proofs.Leaving.{moves_leave}
use Rattle.cx_mean_moves.proofs.moves_leave.Goals as goal

pub returns : goal.returns
returns c = moves_leave
