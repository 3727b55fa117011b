use Rattle.std.proofs.Common.{◌≡◌, map, drop}
use Rattle.straight_core.specs.Views.{view_stmt, stmts_of}
use Rattle.straight_lift.specs.Coded.{names_of, stmts_before}
use Rattle.straight_lift.specs.Lifted.{lift_stmts}
use Rattle.straight_rust_tree.specs.View.{stmt_view}
use Rattle.straight_lift.proofs.statements.+lift_stmt.Given as goal

abbrev pub invariant-lift_stmts-loop-stmt : goal.invariant-lift_stmts-loop-stmt
invariant-lift_stmts-loop-stmt l =
    stmts_before (map stmt_view l.stmts) (lift_stmts (names_of l.names) (stmts_of (map view_stmt (drop l.stmt-index l.list))) l.next)
    ≡ lift_stmts (names_of l.names) (stmts_of (map view_stmt l.list)) l.fn.from
