use Rattle.std.proofs.Common.{◌≡◌, map, drop}
use Rattle.straight_core.specs.Views.{exprs_of, view_expr}
use Rattle.straight_whole.specs.Calls.{calls_in_args}
use Rattle.straight_whole.proofs.called.+calls.Given as goal

abbrev pub invariant-calls_in_args-loop-arg : goal.invariant-calls_in_args-loop-arg
invariant-calls_in_args-loop-arg l =
    calls_in_args l.number (exprs_of (map view_expr (drop l.arg-index l.args))) ≡ calls_in_args l.number (exprs_of (map view_expr l.args))
