use Rattle.std.proofs.Common.{◌≡◌, ◌++◌, map, drop}
use Rattle.cx_core.specs.Views.{view_function}
use Rattle.cx_linked.specs.Found.{view_found}
use Rattle.cx_linked.specs.Linking.{units_in}
use Rattle.cx_linked.specs.Named.{function_renumbered}
use Rattle.cx_linked.proofs.parts.Linking.functions.Given as goal

abbrev pub invariant-loop-place : goal.invariant-loop-place
invariant-loop-place l = map view_function l.made ++ map (function_renumbered (units_in l.self)) (map (view_found view_function) (drop l.place l.all))
    ≡ map view_function l.initial.made ++ map (function_renumbered (units_in l.self)) (map (view_found view_function) l.all)
