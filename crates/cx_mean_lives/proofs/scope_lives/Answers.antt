use Rattle.cx_mean_lives.proofs.MoveLives.{scope_lives}
use Rattle.cx_mean_lives.proofs.scope_lives.Goals as goal

pub returns : goal.returns
returns c = scope_lives
