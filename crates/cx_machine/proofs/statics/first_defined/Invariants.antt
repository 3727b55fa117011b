use Rattle.std.proofs.Common.{◌≡◌, length, map}
use Rattle.cx_core.specs.Views.{view_object}
use Rattle.cx_mean.specs.State.{statics_in}
use Rattle.cx_machine.proofs.statics.first_defined.Given as goal

abbrev pub decreases-loop-one : goal.decreases-loop-one
decreases-loop-one l = length l.left

-- those that are left are all
abbrev pub invariant-loop-one : goal.invariant-loop-one
invariant-loop-one l = statics_in (map view_object l.left) ≡ statics_in (map view_object l.fn.objects)
