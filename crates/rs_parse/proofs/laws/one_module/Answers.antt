use Rattle.rs_parse.proofs.ModuleLaws.{one_module}
use Rattle.rs_parse.proofs.laws.one_module.Goals as goal

pub returns : goal.returns
returns c = one_module
