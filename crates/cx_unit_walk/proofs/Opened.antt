-- What two forms of statements stand for, open one node deep.
use Rattle.std.proofs.Common.{rules, ◌≡◌, ℕ, List, map, Option, option_map}
use Rattle.cx_tree.specs.declared.expr.Expr.{Expr}
use Rattle.cx_tree.specs.declared.stmt.ForFirst.{ForFirst}
use Rattle.cx_tree.specs.declared.stmt.Stmt as stmt
use Rattle.cx_tree.specs.declared.stmt.Stmt.{Stmt}
use Rattle.cx_tree.specs.declared.stmt.Stmt.TheFolds.{fold_out-Stmt}
use Rattle.cx_tree.specs.declared.stmt.Stmt.TheViews.{the_lemmas}
use Rattle.cx_tree.specs.Trees as tree
use Rattle.cx_tree.specs.Views.{expr_view, first_view, option_expr, option_stmt, stmt_view}

pub if_view : (condition : Expr) (branch : Stmt) (otherwise : Option Stmt) (lines : List ℕ) →
    stmt_view (stmt.If condition branch otherwise lines) ≡ tree.If (expr_view condition) (stmt_view branch) (option_stmt (option_map stmt_view otherwise)) lines
if_view condition branch otherwise lines = search (rules, the_lemmas, fold_out-Stmt)

pub for_view : (first : ForFirst) (second third : Option Expr) (body : Stmt) (lines : List ℕ) →
    stmt_view (stmt.For first second third body lines)
    ≡ tree.For (first_view first) (option_expr (option_map expr_view second)) (option_expr (option_map expr_view third)) (stmt_view body) lines
for_view first second third body lines = search (rules, the_lemmas, fold_out-Stmt)
