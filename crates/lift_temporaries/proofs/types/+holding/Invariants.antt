use Rattle.std.proofs.Common.{◌≡◌, map, drop}
use Rattle.cx_core.specs.Views.{exprs_of, puts_of, view_expr, view_put}
use Rattle.lift_temporaries.specs.Behind.{names_of, types_behind_args, types_behind_puts}
use Rattle.rs_tree.specs.Views.{ty_view}
use Rattle.lift_temporaries.proofs.types.+holding.Given as goal

abbrev pub invariant-args_behind-loop-index : goal.invariant-args_behind-loop-index
invariant-args_behind-loop-index l =
    types_behind_args (names_of l.names) (exprs_of (map view_expr (drop l.index l.args))) (map ty_view l.types)
    ≡ types_behind_args (names_of l.names) (exprs_of (map view_expr l.args)) (map ty_view l.fn.types)

abbrev pub invariant-puts_behind-loop-one : goal.invariant-puts_behind-loop-one
invariant-puts_behind-loop-one l =
    types_behind_puts (names_of l.names) (puts_of (map view_put (drop l.one-index l.puts))) (map ty_view l.types)
    ≡ types_behind_puts (names_of l.names) (puts_of (map view_put l.puts)) (map ty_view l.fn.types)
