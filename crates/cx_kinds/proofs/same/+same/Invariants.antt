use Rattle.std.proofs.Common.{◌≡◌, ◌≤◌, map, drop, length}
use Rattle.cx_core.specs.Views.{view_type, types_of}
use Rattle.cx_kinds.specs.Pairs.{pairwise}
use Rattle.cx_rules.specs.Types.{same_type, same_types}
use Rattle.cx_kinds.proofs.same.+same.Given as goal

abbrev pub invariant-same_types-loop-index : goal.invariant-same_types-loop-index
invariant-same_types-loop-index l = record {
  below : l.index ≤ length l.second;
  left : pairwise same_type (map view_type (drop l.index l.first)) (map view_type (drop l.index l.second)) ≡ same_types (types_of (map view_type l.first)) (types_of (map view_type l.second));
}
