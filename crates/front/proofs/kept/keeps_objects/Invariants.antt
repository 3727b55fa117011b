use Rattle.std.proofs.Common.{◌≡◌, map, drop}
use Rattle.std.specs.List.{list_all}
use Rattle.straight_core.specs.Views.{view_object}
use Rattle.front.specs.Kept.{keeps_object}
use Rattle.front.proofs.kept.keeps_objects.Given as goal

abbrev pub invariant-loop-object : goal.invariant-loop-object
invariant-loop-object l = list_all keeps_object (map view_object (drop l.object-index l.objects)) ≡ list_all keeps_object (map view_object l.objects)
