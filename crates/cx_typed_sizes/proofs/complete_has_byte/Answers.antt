use Rattle.cx_typed_sizes.proofs.Bytes.{complete_has_byte}
use Rattle.cx_typed_sizes.proofs.complete_has_byte.Goals as goal

pub returns : goal.returns
returns c = complete_has_byte
