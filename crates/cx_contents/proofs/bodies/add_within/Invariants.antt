use Rattle.std.proofs.Common.{◌≡◌, ◌++◌, map, reverse, length}
use Rattle.cx_scope.specs.Views.{view_declared}
use Rattle.cx_contents.proofs.bodies.add_within.Given as goal

-- what is left stands in front of what is there
abbrev pub invariant-loop-one : goal.invariant-loop-one
invariant-loop-one l =
    map view_declared l.within ++ reverse (map view_declared l.declared) ≡ map view_declared l.initial.within ++ reverse (map view_declared l.initial.declared)

abbrev pub decreases-loop-one : goal.decreases-loop-one
decreases-loop-one l = length l.within
