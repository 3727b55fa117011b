use Rattle.std.proofs.Common.{◌≡◌, ◌++◌, map, drop}
use Rattle.cx_contents.specs.Contents as contents
use Rattle.cx_core.specs.Views.{view_object}
use Rattle.cx_scope.specs.Views.{view_param}
use Rattle.cx_contents.proofs.bodies.add_params.Given as goal

-- the objects so far, and those of the parameters that are left
abbrev pub invariant-loop-one : goal.invariant-loop-one
invariant-loop-one l =
    map view_object l.objects ++ map (contents.param_object l.unit) (map view_param (drop l.one-index l.params))
    ≡ map view_object l.initial.objects ++ map (contents.param_object l.unit) (map view_param l.params)
