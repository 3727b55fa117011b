use Rattle.std.proofs.Common.{◌≡◌, ◌++◌, length, map, reverse}
use Rattle.cx_mean.specs.State.{values_of_args}
use Rattle.cx_work.specs.Views.{view_finished, view_operand}
use Rattle.cx_machine.proofs.entries.values_of.Given as goal

abbrev pub decreases-loop-one : goal.decreases-loop-one
decreases-loop-one l = length l.args

-- those that are left, and then those that were taken, are all
abbrev pub invariant-loop-one : goal.invariant-loop-one
invariant-loop-one l = values_of_args (map view_operand l.args) ++ reverse (map view_finished l.values) ≡ values_of_args (map view_operand l.fn.args)
