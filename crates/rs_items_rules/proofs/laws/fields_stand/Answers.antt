use Rattle.rs_items.specs.Records.{placed_members}
use Rattle.rs_items_rules.proofs.Places.{all_places}
use Rattle.rs_items_rules.proofs.Rows.{fields_differ, fields_stand}
use Rattle.rs_items_rules.proofs.laws.fields_stand.Goals as goal

pub returns : goal.returns
returns c = record {
  all = λ known one spots. all_places one.is_union (placed_members known one.members spots);
  stand = λ known records layouts one row kept is short. fields_stand known records layouts kept one row is short;
  differ = fields_differ;
}
