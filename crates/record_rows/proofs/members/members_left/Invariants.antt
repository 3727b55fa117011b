use Rattle.std.proofs.Common.{map, All}
use Rattle.cx_core.specs.Views.{view_member}
use Rattle.cx_layout.specs.Calls.{IsMemberComplete, HasFittingBits}
use Rattle.record_rows.proofs.members.members_left.Given as goal

abbrev pub invariant-loop-word : goal.invariant-loop-word
invariant-loop-word l = record {
  complete : All (IsMemberComplete l.layouts) (map view_member l.members);
  bits : All HasFittingBits (map view_member l.members);
}
