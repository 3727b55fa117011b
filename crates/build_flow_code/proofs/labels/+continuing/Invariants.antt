use Rattle.std.proofs.Common.{◌≡◌, map, drop}
use Rattle.build_flow_nodes.specs.Labels.{some_has_continue}
use Rattle.cx_core.specs.Views.{stmts_of, view_stmt}
use Rattle.build_flow_code.proofs.labels.+continuing.Given as goal

abbrev pub invariant-some_has_continue-loop-one : goal.invariant-some_has_continue-loop-one
invariant-some_has_continue-loop-one l = some_has_continue (stmts_of (map view_stmt (drop l.one-index l.stmts))) ≡ some_has_continue (stmts_of (map view_stmt l.stmts))
