use Rattle.mem_bytes.proofs.Written.{copy_stands}
use Rattle.mem_bytes.proofs.laws.copy_copies_cells.Goals as goal

pub returns : goal.returns
returns c = copy_stands
