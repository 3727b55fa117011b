use Rattle.std.proofs.Common.{◌≡◌, ◌≤◌, map, drop, length}
use Rattle.cx_core.specs.Needed.{gathered, pairwise, needed_lists, needed_unqualified}
use Rattle.cx_core.specs.Views.{view_type, view_types, types_of}
use Rattle.cx_core.proofs.meets.+meet.Given as goal

abbrev pub invariant-lists_meet-loop-index : goal.invariant-lists_meet-loop-index
invariant-lists_meet-loop-index l = record {
  below : l.index ≤ length l.b;
  left : gathered l.pairs (pairwise (needed_unqualified (view_types l.types)) (map view_type (drop l.index l.a)) (map view_type (drop l.index l.b))) ≡ gathered l.fn.pairs (needed_lists (view_types l.types) (types_of (map view_type l.a)) (types_of (map view_type l.b)));
}
