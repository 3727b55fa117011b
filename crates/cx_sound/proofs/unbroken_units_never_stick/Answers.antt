use Rattle.cx_sound.proofs.Sound.{unbroken_units_never_stick}
use Rattle.cx_sound.proofs.unbroken_units_never_stick.Goals as goal

pub returns : goal.returns
returns c = unbroken_units_never_stick
