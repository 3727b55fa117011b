use Rattle.whole_fits.proofs.Programs.{bodies_fit, initialisers_fit}
use Rattle.whole_fits.proofs.laws.programs_fit.Goals as goal

pub returns : goal.returns
returns c = record { bodies = bodies_fit; initialisers = initialisers_fit }
