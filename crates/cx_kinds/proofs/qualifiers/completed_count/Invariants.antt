use Rattle.std.proofs.Common.{◌≡◌, ◌+◌, ◌≤◌, map, option_map, drop}
use Rattle.cx_core.specs.Layouts.{completed_count}
use Rattle.cx_core.specs.Views.{view_record}
use Rattle.cx_kinds.proofs.qualifiers.completed_count.Given as goal

abbrev pub invariant-loop-record : goal.invariant-loop-record
invariant-loop-record l = record {
  within : l.count ≤ l.record-index;
  left : l.count + completed_count (map (option_map view_record) (drop l.record-index l.records)) ≡ completed_count (map (option_map view_record) l.records);
}
