use Rattle.cx_sound.proofs.Sound.{unbroken_units_have_outcomes}
use Rattle.cx_sound.proofs.unbroken_units_have_outcomes.Goals as goal

pub returns : goal.returns
returns c = unbroken_units_have_outcomes
