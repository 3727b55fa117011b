use Rattle.straight_items.proofs.KeptLaws.{plain_stems}
use Rattle.straight_items.proofs.laws.plain_stems_name_modules.Goals as goal

pub returns : goal.returns
returns c = plain_stems
