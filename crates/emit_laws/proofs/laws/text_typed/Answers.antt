use Rattle.emit_laws.proofs.Typing.{all_typed}
use Rattle.emit_laws.proofs.laws.text_typed.Goals as goal

pub returns : goal.returns
returns c = all_typed
