use Rattle.mem_bytes.proofs.Written.{loads_stored}
use Rattle.mem_bytes.proofs.laws.load_after_put.Goals as goal

pub returns : goal.returns
returns c = loads_stored
