use Rattle.std.proofs.Common.{◌≡◌, map, drop}
use Rattle.std.specs.List.{list_all}
use Rattle.cx_core.specs.Views.{view_member}
use Rattle.cx_layout.specs.Bits.{has_fitting_bits}
use Rattle.cx_layout.proofs.bits.have_fitting_bits.Given as goal

-- the members that are left answer for all
abbrev pub invariant-loop-member : goal.invariant-loop-member
invariant-loop-member l = list_all has_fitting_bits (map view_member (drop l.member-index l.members)) ≡ list_all has_fitting_bits (map view_member l.members)
