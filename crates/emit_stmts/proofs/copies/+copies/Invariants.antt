use Rattle.std.proofs.Common.{◌≡◌, ◌+◌, ◌*◌, map, drop}
use Rattle.rs_mean.specs.Laws.{behind}
use Rattle.rs_text.specs.Tree.{stmts, arms}
use Rattle.rs_tree.specs.Views.{stmt_view, arm_view}
use Rattle.emit_stmts.specs.Copies.{stmts_copy, arms_copy}
use Rattle.emit_stmts.proofs.Lists.{behind_arms}
use Rattle.emit_stmts.proofs.copies.+copies.Given as goal

abbrev pub decreases-copy_stmt : goal.decreases-copy_stmt
decreases-copy_stmt l = 3 * goal.size-copy_stmt l

abbrev pub decreases-copy_stmts : goal.decreases-copy_stmts
decreases-copy_stmts l = 3 * goal.size-copy_stmts l + 1

abbrev pub decreases-copy_arms : goal.decreases-copy_arms
decreases-copy_arms l = 3 * goal.size-copy_arms l + 1

abbrev pub decreases-copy_loop : goal.decreases-copy_loop
decreases-copy_loop l = 3 * goal.size-copy_loop l + 2

abbrev pub decreases-copy_named_loop : goal.decreases-copy_named_loop
decreases-copy_named_loop l = 3 * goal.size-copy_named_loop l + 2

abbrev pub decreases-copy_block : goal.decreases-copy_block
decreases-copy_block l = 3 * goal.size-copy_block l + 2

abbrev pub invariant-copy_stmts-loop-s : goal.invariant-copy_stmts-loop-s
invariant-copy_stmts-loop-s l = behind (stmts (map stmt_view l.made)) (stmts_copy l.labels (stmts (map stmt_view (drop l.s-index l.ss)))) ≡ stmts_copy l.labels (stmts (map stmt_view l.ss))

abbrev pub invariant-copy_arms-loop-one : goal.invariant-copy_arms-loop-one
invariant-copy_arms-loop-one l = behind_arms (arms (map arm_view l.made)) (arms_copy l.labels (arms (map arm_view (drop l.one-index l.cases)))) ≡ arms_copy l.labels (arms (map arm_view l.cases))
