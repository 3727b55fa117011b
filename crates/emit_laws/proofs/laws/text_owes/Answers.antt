use Rattle.emit_laws.proofs.Written.{text_owes}
use Rattle.emit_laws.proofs.laws.text_owes.Goals as goal

pub returns : goal.returns
returns g c = text_owes _ _ _ _ _
