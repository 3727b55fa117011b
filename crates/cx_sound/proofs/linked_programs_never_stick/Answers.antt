use Rattle.cx_sound.proofs.Sound.{linked_programs_never_stick}
use Rattle.cx_sound.proofs.linked_programs_never_stick.Goals as goal

pub returns : goal.returns
returns c = linked_programs_never_stick
