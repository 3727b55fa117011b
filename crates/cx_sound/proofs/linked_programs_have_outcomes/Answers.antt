use Rattle.cx_sound.proofs.Sound.{linked_programs_have_outcomes}
use Rattle.cx_sound.proofs.linked_programs_have_outcomes.Goals as goal

pub returns : goal.returns
returns c = linked_programs_have_outcomes
