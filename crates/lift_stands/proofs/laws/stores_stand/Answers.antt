use Rattle.lift_stands.proofs.Stores.{store_value, store_one, store_record, store_fill, store_copy}
use Rattle.lift_stands.proofs.laws.stores_stand.Goals as goal

pub returns : goal.returns
returns c = record {
  value = store_value;
  one = store_one;
  record_cells = store_record;
  fill = store_fill;
  copy = λ images memory after others from at source to count stands behind place e.
      store_copy images memory after others at to from source count stands behind place e;
}
