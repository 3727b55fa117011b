use Rattle.std.proofs.Common.{◌≡◌, ◌≤◌, [], map, drop, length}
use Rattle.cx_core.specs.Views.{view_type, view_types, types_of}
use Rattle.cx_kinds.specs.Pairs.{pairwise}
use Rattle.cx_core.specs.Compatible.{lists_agree, in_pairs}
use Rattle.cx_kinds.proofs.Pairwise.{unqualified_agree}
use Rattle.cx_kinds.proofs.meeting.+agree.Given as goal

abbrev pub invariant-lists_agree-loop-index : goal.invariant-lists_agree-loop-index
invariant-lists_agree-loop-index l = record {
  below : l.index ≤ length l.second;
  left : pairwise (unqualified_agree (view_types l.types) (in_pairs [])) (map view_type (drop l.index l.first)) (map view_type (drop l.index l.second)) ≡ lists_agree (view_types l.types) (in_pairs []) (types_of (map view_type l.first)) (types_of (map view_type l.second));
}
