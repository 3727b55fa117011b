use Rattle.std.proofs.Common.{◌≡◌, map, drop}
use Rattle.straight_core.specs.Views.{stmts_of, view_stmt}
use Rattle.straight_whole.specs.Calls.{calls_in_stmts}
use Rattle.straight_whole.proofs.called.+calls_in_stmt.Given as goal

abbrev pub invariant-calls_in_stmts-loop-stmt : goal.invariant-calls_in_stmts-loop-stmt
invariant-calls_in_stmts-loop-stmt l =
    calls_in_stmts l.number (stmts_of (map view_stmt (drop l.stmt-index l.stmts))) ≡ calls_in_stmts l.number (stmts_of (map view_stmt l.stmts))
