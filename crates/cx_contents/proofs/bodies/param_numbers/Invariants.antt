use Rattle.std.proofs.Common.{◌≡◌, ◌++◌, map, drop}
use Rattle.cx_scope.specs.Views.{view_param}
use Rattle.cx_contents.proofs.bodies.param_numbers.Given as goal

-- the numbers so far, and those of the parameters that are left
abbrev pub invariant-loop-one : goal.invariant-loop-one
invariant-loop-one l =
    l.numbers ++ map (λ one. one.object) (map view_param (drop l.one-index l.params)) ≡ map (λ one. one.object) (map view_param l.params)
