use Rattle.mem_bytes.proofs.Written.{put_writes, put_bits_writes, fill_writes, put_cell_writes, put_record_writes, copy_writes}
use Rattle.mem_bytes.proofs.laws.calls_write.Goals as goal

pub returns : goal.returns
returns c = record {
  put = put_writes;
  put_bits = put_bits_writes;
  fill = fill_writes;
  put_cell = put_cell_writes;
  put_record = put_record_writes;
  copy = copy_writes;
}
