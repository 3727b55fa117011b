use Rattle.std.proofs.Common.{◌≡◌, length, map}
use Rattle.cx_core.specs.Views.{view_object}
use Rattle.cx_mean.specs.Moves.{static_puts}
use Rattle.cx_mean.specs.State.{statics_in}
use Rattle.cx_moves.proofs.puts.static_puts.Given as goal

abbrev pub decreases-loop-object : goal.decreases-loop-object
decreases-loop-object l = length l.others

-- those that are left come to what all come to
abbrev pub invariant-loop-object : goal.invariant-loop-object
invariant-loop-object l = static_puts (statics_in (map view_object l.others)) ≡ static_puts (statics_in (map view_object l.fn.objects))
