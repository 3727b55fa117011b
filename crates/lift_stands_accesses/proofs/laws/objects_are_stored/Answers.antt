use Rattle.lift_stands_accesses.proofs.Stores.{scalar_stored, record_stored, bits_stored}
use Rattle.lift_stands_accesses.proofs.laws.objects_are_stored.Goals as goal

pub returns : goal.returns
returns c = record {
  scalars = λ images held other at to marks kind value given one is_scalar stands place. scalar_stored images held other at to marks one stands place kind value given is_scalar;
  records = λ images held other at to source marks laid room list from one stands place. record_stored images held other at to marks one stands place source laid room list from;
  fields = λ images held other at to bit width marks kind number one in_bytes stands place. bits_stored images held other at to marks one stands place bit width kind number in_bytes;
}
