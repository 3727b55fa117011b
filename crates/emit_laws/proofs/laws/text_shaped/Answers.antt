use Rattle.emit_laws.proofs.Shapes.{text_shaped}
use Rattle.emit_laws.proofs.laws.text_shaped.Goals as goal

pub returns : goal.returns
returns c = text_shaped
