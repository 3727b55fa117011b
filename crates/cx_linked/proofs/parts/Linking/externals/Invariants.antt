use Rattle.std.proofs.Common.{◌≡◌, ◌++◌, map, drop}
use Rattle.std.specs.List.{flat_map}
use Rattle.cx_core.specs.Views.{view_outer}
use Rattle.cx_linked.specs.Found.{view_found}
use Rattle.cx_linked.specs.Linking.{units_in}
use Rattle.cx_linked.specs.Named.{outers_for}
use Rattle.cx_linked.proofs.parts.Linking.externals.Given as goal

abbrev pub invariant-loop-place : goal.invariant-loop-place
invariant-loop-place l = map view_outer l.made ++ flat_map (outers_for (units_in l.self)) (map (view_found view_outer) (drop l.place l.all))
    ≡ map view_outer l.initial.made ++ flat_map (outers_for (units_in l.self)) (map (view_found view_outer) l.all)
