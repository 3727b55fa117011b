use Rattle.cx_sound.proofs.Sound.{linked_programs_break_rules}
use Rattle.cx_sound.proofs.linked_programs_break_rules.Goals as goal

pub returns : goal.returns
returns c = linked_programs_break_rules
