use Rattle.std.proofs.Common.{◌≡◌, map, drop}
use Rattle.cx_core.specs.Views.{stmts_of, view_stmt}
use Rattle.whole_keys.specs.Behind.{calls_behind_stmts}
use Rattle.whole_keys.specs.Views.{view_call}
use Rattle.whole_keys.proofs.body_calls.+stmts.Given as goal

abbrev pub invariant-stmts_behind-loop-one : goal.invariant-stmts_behind-loop-one
invariant-stmts_behind-loop-one l =
    calls_behind_stmts (stmts_of (map view_stmt (drop l.one-index l.stmts))) (map view_call l.calls) ≡ calls_behind_stmts (stmts_of (map view_stmt l.stmts)) (map view_call l.fn.calls)
