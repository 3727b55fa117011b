use Rattle.rs_parse.proofs.OutlineLaws.{one_main}
use Rattle.rs_parse.proofs.laws.one_main.Goals as goal

pub returns : goal.returns
returns c = one_main
