use Rattle.mem_bytes.proofs.Numbered.{never_again}
use Rattle.mem_bytes.proofs.laws.numbers_never_used_again.Goals as goal

pub returns : goal.returns
returns c = never_again
