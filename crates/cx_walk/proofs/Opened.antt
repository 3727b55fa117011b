-- What two forms of expressions stand for, open one node deep.
use Rattle.std.proofs.Common.{rules, ◌≡◌, ℕ, List, map}
use Rattle.cx_walk.specs.Walks.{initialiser_in}
use Rattle.cx_tree.specs.declared.declarator.Brackets.TheFolds.{fold_out-Entry, fold_out-Expr}
use Rattle.cx_tree.specs.declared.declarator.Brackets.TheViews.{the_lemmas}
use Rattle.cx_tree.specs.declared.initialiser.Entry.{Entry}
use Rattle.cx_tree.specs.declared.expr.Expr as expr
use Rattle.cx_tree.specs.declared.expr.Expr.{Expr}
use Rattle.cx_tree.specs.Trees as tree
use Rattle.cx_tree.specs.Views.{entry_view, expr_view, exprs as expr_trees, initialiser_view}

pub call_view : (of : Expr) (args : List Expr) (lines : List ℕ) → expr_view (expr.Call of args lines) ≡ tree.Call (expr_view of) (expr_trees (map expr_view args)) lines
call_view of args lines = search (rules, the_lemmas, fold_out-Expr)

pub sizeof_view : (on : Expr) (lines : List ℕ) → expr_view (expr.SizeofExpr on lines) ≡ tree.SizeofExpr (expr_view on) lines
sizeof_view on lines = search (rules, the_lemmas, fold_out-Expr)

pub init_view : (one : Entry) → initialiser_in (entry_view one) ≡ initialiser_view one.init
init_view one = search (rules, the_lemmas, fold_out-Entry)
