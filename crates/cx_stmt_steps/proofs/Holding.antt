-- Statements that are blocks of their own.
use Rattle.std.proofs.Common.{rules, ◌≡◌, refl, ℕ, List, [], ◌++◌}
use Rattle.cx_core.specs.declared.stmt.CoreStmt.{CoreStmt, fold_out-CoreStmt}
use Rattle.cx_core.specs.Trees.{CStmt, stmt}
use Rattle.cx_core.specs.Views.{view_stmt}
use Rattle.cx_rules.specs.UnitWalk.{as_block}
use Rattle.cx_stmt_steps.specs.Blocks.{own_objects, with_objects}

pub holds_none : (one : CStmt) → as_block (record { stmt = one; objects = [] }) ≡ one
holds_none (stmt place own form) = refl

pub holds_both : (objects : List ℕ) (one : CStmt) → as_block (record { stmt = one; objects = objects }) ≡ with_objects (objects ++ own_objects one) one
holds_both objects (stmt place own form) = refl

pub own_view : (one : CoreStmt) → own_objects (view_stmt one) ≡ one.objects
own_view one = search (rules, fold_out-CoreStmt)
