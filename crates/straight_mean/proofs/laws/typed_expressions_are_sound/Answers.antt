use Rattle.straight_mean.proofs.SoundValues.{typed_is_sound}
use Rattle.straight_mean.proofs.laws.typed_expressions_are_sound.Goals as goal

pub returns : goal.returns
returns c = typed_is_sound
