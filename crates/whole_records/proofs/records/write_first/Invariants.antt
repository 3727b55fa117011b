use Rattle.rs_items.specs.Known.{view_names}
use Rattle.whole_given.specs.Whole.{named}
use Rattle.whole_known.specs.Stages.{HasTypes}
use Rattle.whole_records.specs.Fields.{WritesAll}
use Rattle.whole_records.proofs.records.write_first.Given as goal

-- those below the number are written
abbrev pub invariant-loop-number : goal.invariant-loop-number
invariant-loop-number l = record {
  types : HasTypes (named l.whole) (view_names l.names).known;
  all : WritesAll (named l.whole) l.number (view_names l.fn.names) (view_names l.names);
}
