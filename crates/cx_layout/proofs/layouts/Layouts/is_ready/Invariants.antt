use Rattle.std.proofs.Common.{◌≡◌, map, drop}
use Rattle.cx_core.specs.Views.{view_member}
use Rattle.cx_layout.specs.Building.{are_complete}
use Rattle.cx_layout.proofs.layouts.Layouts.is_ready.Given as goal

abbrev pub invariant-loop-member : goal.invariant-loop-member
invariant-loop-member l = are_complete l.self (map view_member (drop l.member-index l.members)) ≡ are_complete l.self (map view_member l.members)
