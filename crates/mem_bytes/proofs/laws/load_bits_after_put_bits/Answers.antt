use Rattle.mem_bytes.proofs.Written.{loads_stored_bits}
use Rattle.mem_bytes.proofs.laws.load_bits_after_put_bits.Goals as goal

pub returns : goal.returns
returns c = loads_stored_bits
