use Rattle.cx_stays.proofs.StateLives.{dead_stays_dead}
use Rattle.cx_stays.proofs.dead_stays_dead.Goals as goal

pub returns : goal.returns
returns c = dead_stays_dead
