use Rattle.cx_mean_lives.proofs.ValueLives.{unwritten_sizes}
use Rattle.cx_mean_lives.proofs.unwritten_sizes.Goals as goal

pub returns : goal.returns
returns c = unwritten_sizes
