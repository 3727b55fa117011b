use Rattle.mem_bytes.proofs.Beside.{bits_stay}
use Rattle.mem_bytes.proofs.laws.bits_beside_stay.Goals as goal

pub returns : goal.returns
returns c = bits_stay
