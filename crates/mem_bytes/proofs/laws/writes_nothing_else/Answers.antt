use Rattle.mem_bytes.proofs.Written.{cells_stay, values_stay, fields_stay, records_stay}
use Rattle.mem_bytes.proofs.laws.writes_nothing_else.Goals as goal

pub returns : goal.returns
returns c = record {
  cells = cells_stay;
  values = values_stay;
  fields = fields_stay;
  records = records_stay;
}
