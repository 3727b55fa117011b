use Rattle.lift_stands_lives.proofs.Stored.{value_leaves, one_leaves, record_leaves, fill_leaves, copy_leaves, written_aside}
use Rattle.lift_stands_lives.proofs.Copied.{record_holds, record_copied}
use Rattle.lift_stands_lives.proofs.laws.stores_leave.Goals as goal

pub returns : goal.returns
returns c = record {
  holds = record_holds;
  value = λ images held other after at to scalar value given is_scalar is_value stands place. value_leaves images held other after at to stands place scalar value given is_scalar is_value;
  one = λ images held other after at to cell given is_held given_held stands place. one_leaves images held other after at to stands place cell given is_held given_held;
  record_cells = λ images held other after at to align cells given are_held given_held stands place. record_leaves images held other after at to stands place align cells given are_held given_held;
  record_copied = record_copied;
  fill = λ images held other after at to byte count small stands place. fill_leaves images held other after at to stands place byte count small;
  copy = λ images held other after from at source to count stands behind place. copy_leaves images held other after at to stands place from source count behind;
  aside = written_aside;
}
