use Rattle.lift_stands.proofs.Loads.{load_value, load_part, load_record, load_one}
use Rattle.lift_stands.proofs.laws.loads_stand.Goals as goal

pub returns : goal.returns
returns c = record { value = load_value; part = load_part; record_cells = load_record; one = load_one }
