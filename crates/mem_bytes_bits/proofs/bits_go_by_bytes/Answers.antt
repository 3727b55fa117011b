use Rattle.mem_bytes_bits.proofs.ByBytes.{byte_loaded, field_loaded, field_stored}
use Rattle.mem_bytes_bits.proofs.bits_go_by_bytes.Goals as goal

pub returns : goal.returns
returns c = record { byte = byte_loaded; load = field_loaded; put = field_stored }
