use Rattle.std.proofs.Common.{◌≡◌, map, drop}
use Rattle.cx_core.specs.Views.{stmts_of, view_stmt}
use Rattle.whole_locals.specs.Blocks.{objects_behind_list}
use Rattle.whole_locals.proofs.blocks.+blocks.Given as goal

abbrev pub invariant-stmts_behind-loop-one : goal.invariant-stmts_behind-loop-one
invariant-stmts_behind-loop-one l = objects_behind_list (stmts_of (map view_stmt (drop l.one-index l.stmts))) l.found ≡ objects_behind_list (stmts_of (map view_stmt l.stmts)) l.fn.found
