use Rattle.std.proofs.Common.{◌≡◌, map, drop}
use Rattle.straight_core.specs.Views.{view_expr, exprs_of}
use Rattle.straight_lift.specs.Coded.{names_of, args_before}
use Rattle.straight_lift.specs.Lifted.{lift_args}
use Rattle.straight_rust_tree.specs.View.{stmt_view}
use Rattle.straight_lift.proofs.lifting.+lift.Given as goal

abbrev pub invariant-lift_args-loop-arg : goal.invariant-lift_args-loop-arg
invariant-lift_args-loop-arg l =
    args_before (map stmt_view l.stmts) l.values (lift_args (names_of l.names) (exprs_of (map view_expr (drop l.arg-index l.args))) l.next)
    ≡ lift_args (names_of l.names) (exprs_of (map view_expr l.args)) l.fn.from
