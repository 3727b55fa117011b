-- An arm as a tree.
use Rattle.std.proofs.Common.{◌≡◌, rules, map}
use Rattle.rs_text.specs.Tree.{LiteralArm, stmts}
use Rattle.rs_tree.specs.declared.stmt.Arm.{Arm}
use Rattle.rs_tree.specs.declared.stmt.RStmt.TheFolds.{fold_out-Arm}
use Rattle.rs_tree.specs.declared.stmt.RStmt.TheViews.{the_lemmas}
use Rattle.rs_tree.specs.Views.{stmt_view, arm_view}

pub arm_is : (one : Arm) → arm_view one ≡ LiteralArm one.value one.ty (stmts (map stmt_view one.body))
arm_is one = search (rules, the_lemmas, fold_out-Arm)
