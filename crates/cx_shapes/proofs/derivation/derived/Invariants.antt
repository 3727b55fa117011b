use Rattle.std.proofs.Common.{◌≡◌, map, reverse, length}
use Rattle.cx_core.specs.Views.{view_type}
use Rattle.cx_rules.specs.Shapes.{derived}
use Rattle.cx_shapes.specs.Views.{view_step}
use Rattle.cx_shapes.proofs.derivation.derived.Given as goal

-- the steps that are left lead from what was made to the same type
abbrev pub invariant-loop-first : goal.invariant-loop-first
invariant-loop-first l =
    derived (view_type l.made) (reverse (map view_step l.left)) ≡ derived (view_type l.fn.from) (reverse (map view_step l.steps))

abbrev pub decreases-loop-first : goal.decreases-loop-first
decreases-loop-first l = length l.left
