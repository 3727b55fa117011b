use Rattle.std.proofs.Common.{◌≡◌, ◌++◌, map, drop}
use Rattle.cx_core.specs.Views.{view_outer, view_unit}
use Rattle.cx_linked.specs.Found.{found_at, view_found}
use Rattle.cx_linked.proofs.found.add_externals.Given as goal

abbrev pub invariant-loop-thing : goal.invariant-loop-thing
invariant-loop-thing l = map (view_found view_outer) l.all ++ map (found_at l.unit (view_unit l.home)) (map view_outer (drop l.thing-index l.externals))
    ≡ map (view_found view_outer) l.initial.all ++ map (found_at l.unit (view_unit l.home)) (map view_outer l.externals)
