use Rattle.std.proofs.Common.{◌≡◌, ◌≤◌, map, drop, length}
use Rattle.cx_core.specs.Needed.{gathered, needed_in_order}
use Rattle.cx_core.specs.Views.{view_member, view_types}
use Rattle.cx_core.proofs.records.meet_in_order.Given as goal

abbrev pub invariant-loop-index : goal.invariant-loop-index
invariant-loop-index l = record {
  below : l.index ≤ length l.seconds;
  left : gathered l.pairs (needed_in_order (view_types l.types) (map view_member (drop l.index l.firsts)) (map view_member (drop l.index l.seconds))) ≡ gathered l.fn.pairs (needed_in_order (view_types l.types) (map view_member l.firsts) (map view_member l.seconds));
}
