use Rattle.cr_world.proofs.TextLaws.{text_read, text_found}
use Rattle.cr_world.proofs.laws.texts_are_read.Goals as goal

pub returns : goal.returns
returns c = record { read = text_read; found = text_found }
