use Rattle.lift_stands_accesses.proofs.Loads.{scalar_loaded, record_loaded, bits_loaded}
use Rattle.lift_stands_accesses.proofs.laws.objects_are_loaded.Goals as goal

pub returns : goal.returns
returns c = record {
  scalars = λ images memory others at to marks kind one stands place. scalar_loaded images memory others at to marks one stands place kind;
  records = λ images memory others at to marks laid one stands place. record_loaded images memory others at to marks one stands place laid;
  fields = λ images memory others at to bit width marks kind one in_bytes stands place. bits_loaded images memory others at to marks one stands place bit width kind in_bytes;
}
