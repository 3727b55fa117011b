use Rattle.mem_bytes.proofs.Numbered.{blocks_counted}
use Rattle.mem_bytes.proofs.laws.blocks_are_counted.Goals as goal

pub returns : goal.returns
returns c = blocks_counted
