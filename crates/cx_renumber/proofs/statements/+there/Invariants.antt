use Rattle.std.proofs.Common.{◌≡◌, ◌++◌, map, drop}
use Rattle.cx_core.specs.Views.{view_stmt}
use Rattle.cx_renumber.specs.Numbers.{stmt_there}
use Rattle.cx_renumber.specs.Views.{view_numbers}
use Rattle.cx_renumber.proofs.statements.+there.Given as goal

abbrev pub invariant-stmts_there-loop-one : goal.invariant-stmts_there-loop-one
invariant-stmts_there-loop-one l = map view_stmt l.made ++ map (stmt_there (view_numbers l.numbers)) (map view_stmt (drop l.one-index l.all)) ≡ map (stmt_there (view_numbers l.numbers)) (map view_stmt l.all)
