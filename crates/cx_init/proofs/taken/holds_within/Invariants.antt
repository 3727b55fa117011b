use Rattle.std.proofs.Common.{◌≡◌, map, drop}
use Rattle.std.specs.List.{list_any}
use Rattle.cx_init.specs.Views.{view_stored}
use Rattle.cx_rules.specs.Pieces.{is_within}
use Rattle.cx_init.proofs.taken.holds_within.Given as goal

-- those that are left answer for all
abbrev pub invariant-loop-one : goal.invariant-loop-one
invariant-loop-one l = list_any (λ one. is_within l.part one.path) (map view_stored (drop l.one-index l.stored)) ≡ list_any (λ one. is_within l.part one.path) (map view_stored l.stored)
