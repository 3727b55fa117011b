use Rattle.cx_typed_work.proofs.AskingOnce.{steps_ask_once}
use Rattle.cx_typed_work.proofs.steps_ask_once.Goals as goal

pub returns : goal.returns
returns c = steps_ask_once
