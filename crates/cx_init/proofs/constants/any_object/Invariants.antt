use Rattle.std.proofs.Common.{◌≡◌, map, drop}
use Rattle.std.specs.List.{list_any}
use Rattle.cx_core.specs.Views.{view_object}
use Rattle.cx_rules.specs.Pieces.{object_static}
use Rattle.cx_init.proofs.constants.any_object.Given as goal

-- those that are left answer for all
abbrev pub invariant-loop-one : goal.invariant-loop-one
invariant-loop-one l = list_any (object_static l.number) (map view_object (drop l.one-index l.objects)) ≡ list_any (object_static l.number) (map view_object l.objects)
