use Rattle.std.proofs.Common.{◌≡◌, map, drop}
use Rattle.std.specs.List.{list_any}
use Rattle.cx_rules.specs.Pieces.{made_static}
use Rattle.cx_scope.specs.Views.{view_made}
use Rattle.cx_init.proofs.constants.any_made.Given as goal

-- those that are left answer for all
abbrev pub invariant-loop-made : goal.invariant-loop-made
invariant-loop-made l = list_any (made_static l.number) (map view_made (drop l.made-index l.literals)) ≡ list_any (made_static l.number) (map view_made l.literals)
