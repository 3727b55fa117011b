use Rattle.std.proofs.Common.{◌≡◌, map, drop}
use Rattle.rs_items.specs.Known.{view_names}
use Rattle.rs_tree.specs.Views.{item_view}
use Rattle.whole_given.specs.Whole.{named}
use Rattle.whole_known.specs.Stages.{HasTypes}
use Rattle.whole_records.specs.Fields.{HasFields, KeepsNames, records_behind}
use Rattle.whole_records.proofs.records.write_numbers.Given as goal

-- with what is left these are all
abbrev pub invariant-loop-one : goal.invariant-loop-one
invariant-loop-one l = record {
  types : HasTypes (named l.whole) (view_names l.names).known;
  fields : HasFields (named l.whole) (view_names l.names);
  items : records_behind (named l.whole) l.unit (drop l.one-index l.numbers) (map item_view l.items) ≡ records_behind (named l.whole) l.unit l.numbers (map item_view l.fn.items);
  rest : KeepsNames (view_names l.fn.names) (view_names l.names);
}
