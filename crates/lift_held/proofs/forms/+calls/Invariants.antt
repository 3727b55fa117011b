use Rattle.std.proofs.Common.{◌≡◌, map, drop}
use Rattle.cx_core.specs.Views.{puts_of, view_put}
use Rattle.cx_mean.specs.Quiet.{puts_call_nothing}
use Rattle.lift_held.proofs.forms.+calls.Given as goal

abbrev pub invariant-some_put_holds_call-loop-one : goal.invariant-some_put_holds_call-loop-one
invariant-some_put_holds_call-loop-one l = puts_call_nothing (puts_of (map view_put (drop l.one-index l.puts))) ≡ puts_call_nothing (puts_of (map view_put l.puts))
