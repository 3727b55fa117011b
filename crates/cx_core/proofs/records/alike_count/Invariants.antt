use Rattle.std.proofs.Common.{◌≡◌, ◌+◌, ◌≤◌, map, drop}
use Rattle.std.specs.List.{count_by}
use Rattle.cx_core.specs.Compatible.{are_alike}
use Rattle.cx_core.specs.Views.{view_member, view_types}
use Rattle.cx_core.proofs.records.alike_count.Given as goal

abbrev pub invariant-loop-other : goal.invariant-loop-other
invariant-loop-other l = record {
  below : l.count ≤ l.other-index;
  left : l.count + count_by (are_alike (view_types l.types) (view_member l.one)) (map view_member (drop l.other-index l.members)) ≡ count_by (are_alike (view_types l.types) (view_member l.one)) (map view_member l.members);
}
