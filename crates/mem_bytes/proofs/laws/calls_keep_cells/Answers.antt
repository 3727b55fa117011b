use Rattle.mem_bytes.proofs.Held.{held_later}
use Rattle.mem_bytes.proofs.laws.calls_keep_cells.Goals as goal

pub returns : goal.returns
returns c = held_later
