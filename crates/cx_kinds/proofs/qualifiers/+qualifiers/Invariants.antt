use Rattle.std.proofs.Common.{◌≡◌, map, drop, ◌+◌, ◌*◌}
use Rattle.std.specs.List.{list_any}
use Rattle.cx_core.specs.ValidTypes.{const_in, has_const}
use Rattle.cx_core.specs.Views.{view_types, view_member}
use Rattle.cx_kinds.proofs.qualifiers.+qualifiers.Given as goal

abbrev pub decreases-any_const : goal.decreases-any_const
decreases-any_const l = 4 * l.depth + 3

abbrev pub decreases-const_in : goal.decreases-const_in
decreases-const_in l = 4 * l.depth + 2

abbrev pub decreases-has_const : goal.decreases-has_const
decreases-has_const l = 4 * l.depth

abbrev pub decreases-record_const : goal.decreases-record_const
decreases-record_const l = 4 * l.depth + 1

abbrev pub invariant-any_const-loop-member : goal.invariant-any_const-loop-member
invariant-any_const-loop-member l =
    list_any (λ member. const_in (has_const (view_types l.types) l.depth) member.type) (map view_member (drop l.member-index l.members))
    ≡ list_any (λ member. const_in (has_const (view_types l.types) l.depth) member.type) (map view_member l.members)
