use Rattle.rs_parse.proofs.OneCrate.{one_crate}
use Rattle.rs_parse.proofs.laws.one_crate.Goals as goal

pub returns : goal.returns
returns c = one_crate
