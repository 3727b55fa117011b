use Rattle.std.proofs.Common.{◌≡◌, ◌++◌, map, drop}
use Rattle.std.specs.List.{flat_map}
use Rattle.cx_core.specs.Views.{view_object}
use Rattle.cx_linked.specs.Found.{view_found}
use Rattle.cx_linked.specs.Linking.{units_in}
use Rattle.cx_linked.specs.Named.{objects_for}
use Rattle.cx_linked.proofs.parts.Linking.objects.Given as goal

abbrev pub invariant-loop-place : goal.invariant-loop-place
invariant-loop-place l = map view_object l.made ++ flat_map (objects_for (units_in l.self)) (map (view_found view_object) (drop l.place l.all))
    ≡ map view_object l.initial.made ++ flat_map (objects_for (units_in l.self)) (map (view_found view_object) l.all)
