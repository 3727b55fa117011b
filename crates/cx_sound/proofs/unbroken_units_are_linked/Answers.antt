use Rattle.cx_sound.proofs.Sound.{unbroken_units_are_linked}
use Rattle.cx_sound.proofs.unbroken_units_are_linked.Goals as goal

pub returns : goal.returns
returns c = unbroken_units_are_linked
