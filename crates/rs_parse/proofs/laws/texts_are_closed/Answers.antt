use Rattle.rs_parse.proofs.ModuleLaws.{texts_are_closed}
use Rattle.rs_parse.proofs.laws.texts_are_closed.Goals as goal

pub returns : goal.returns
returns c = texts_are_closed
