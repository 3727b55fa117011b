use Rattle.std.proofs.Common.{◌≡◌, map, drop}
use Rattle.cx_core.specs.Views.{exprs_of, view_expr}
use Rattle.lift_held.specs.Held.{some_holds_call}
use Rattle.lift_held.proofs.forms.some_holds_call.Given as goal

abbrev pub invariant-loop-one : goal.invariant-loop-one
invariant-loop-one l = some_holds_call (exprs_of (map view_expr (drop l.one-index l.args))) ≡ some_holds_call (exprs_of (map view_expr l.args))
