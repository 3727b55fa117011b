use Rattle.cx_typed.proofs.Records.{records_sound}
use Rattle.cx_typed.proofs.records_stay_sound.Goals as goal

pub returns : goal.returns
returns c = records_sound
