use Rattle.emit_laws.proofs.Valid.{all_valid}
use Rattle.emit_laws.proofs.laws.text_valid.Goals as goal

pub returns : goal.returns
returns c = all_valid
