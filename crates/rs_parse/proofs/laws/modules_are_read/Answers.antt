use Rattle.rs_parse.proofs.ModuleLaws.{modules_are_read}
use Rattle.rs_parse.proofs.laws.modules_are_read.Goals as goal

pub returns : goal.returns
returns c = modules_are_read
