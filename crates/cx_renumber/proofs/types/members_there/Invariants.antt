use Rattle.std.proofs.Common.{◌≡◌, ◌++◌, map, drop}
use Rattle.cx_core.specs.Views.{view_member}
use Rattle.cx_renumber.specs.Numbers.{member_there}
use Rattle.cx_renumber.specs.Views.{view_counts}
use Rattle.cx_renumber.proofs.types.members_there.Given as goal

abbrev pub invariant-loop-one : goal.invariant-loop-one
invariant-loop-one l = map view_member l.made ++ map (member_there (view_counts l.before)) (map view_member (drop l.one-index l.members)) ≡ map (member_there (view_counts l.before)) (map view_member l.members)
