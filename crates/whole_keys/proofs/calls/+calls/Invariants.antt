use Rattle.std.proofs.Common.{◌≡◌, map, drop}
use Rattle.cx_core.specs.Views.{exprs_of, puts_of, view_expr, view_put}
use Rattle.whole_keys.specs.Behind.{calls_behind_list, calls_behind_puts}
use Rattle.whole_keys.specs.Views.{view_call}
use Rattle.whole_keys.proofs.calls.+calls.Given as goal

abbrev pub invariant-args_behind-loop-one : goal.invariant-args_behind-loop-one
invariant-args_behind-loop-one l =
    calls_behind_list (exprs_of (map view_expr (drop l.one-index l.args))) (map view_call l.calls) ≡ calls_behind_list (exprs_of (map view_expr l.args)) (map view_call l.fn.calls)

abbrev pub invariant-puts_behind-loop-one : goal.invariant-puts_behind-loop-one
invariant-puts_behind-loop-one l =
    calls_behind_puts (puts_of (map view_put (drop l.one-index l.puts))) (map view_call l.calls) ≡ calls_behind_puts (puts_of (map view_put l.puts)) (map view_call l.fn.calls)
