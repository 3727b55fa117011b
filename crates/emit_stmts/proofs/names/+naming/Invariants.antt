use Rattle.std.proofs.Common.{◌≡◌, map, drop}
use Rattle.rs_mean_ends.specs.Ways.{stmts_name, arms_name}
use Rattle.rs_text.specs.Tree.{stmts, arms}
use Rattle.rs_tree.specs.Views.{stmt_view, arm_view}
use Rattle.emit_stmts.proofs.names.+naming.Given as goal

abbrev pub invariant-stmts_name-loop-s : goal.invariant-stmts_name-loop-s
invariant-stmts_name-loop-s l = stmts_name l.label (stmts (map stmt_view (drop l.s-index l.ss))) ≡ stmts_name l.label (stmts (map stmt_view l.ss))

abbrev pub invariant-arms_name-loop-one : goal.invariant-arms_name-loop-one
invariant-arms_name-loop-one l = arms_name l.label (arms (map arm_view (drop l.one-index l.cases))) ≡ arms_name l.label (arms (map arm_view l.cases))
