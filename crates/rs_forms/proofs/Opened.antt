-- What variants of statements are as trees, and that a statement runs as its form does.
use Rattle.std.proofs.Common.{◌≡◌, ◌∙◌, sym, ap, rules, map, ℕ, List, Option, Some, None}
use Rattle.rs_mean.specs.Run.{Frame, run_dropped, run_stmt}
use Rattle.rs_text.specs.Tree as tree
use Rattle.rs_text.specs.Tree.{Stmt, stmts, arms}
use Rattle.rs_tree.specs.declared.expr.RExpr.{RExpr}
use Rattle.rs_tree.specs.declared.stmt.RStmt.{RStmt}
use Rattle.rs_tree.specs.declared.stmt.Arm.{Arm}
use Rattle.rs_tree.specs.declared.stmt.RStmt.TheFolds.{fold_out-RStmt}
use Rattle.rs_tree.specs.declared.stmt.RStmt.TheBlock as plain
use Rattle.rs_tree.specs.declared.stmt.RStmt.TheViews as of
use Rattle.rs_tree.specs.declared.stmt.RStmt.TheViews.{the_lemmas as stmt_lemmas}
use Rattle.rs_tree.specs.declared.expr.RPlace.{RPlace}
use Rattle.rs_tree.specs.Views.{arm_view, expr_view, place_view, stmt_view}

eval_view : (value : RExpr) → stmt_view (plain.Eval value) ≡ tree.Eval (expr_view value)
eval_view value = search (rules, stmt_lemmas, fold_out-RStmt)

copy_view : (source target count : RExpr) → stmt_view (plain.CopyBytes source target count) ≡ tree.CopyBytes (expr_view source) (expr_view target) (expr_view count)
copy_view source target count = search (rules, stmt_lemmas, fold_out-RStmt)

if_view : (condition : RExpr) (if_true if_false : List RStmt) →
    stmt_view (of.If condition if_true if_false) ≡ tree.If (expr_view condition) (stmts (map stmt_view if_true)) (stmts (map stmt_view if_false))
if_view condition if_true if_false = search (rules, stmt_lemmas, fold_out-RStmt)

loop_view : (label : Option (List ℕ)) (body : List RStmt) → stmt_view (of.Loop label body) ≡ tree.Loop label (stmts (map stmt_view body))
loop_view label body = search (rules, stmt_lemmas, fold_out-RStmt)

block_view : (label : List ℕ) (body : List RStmt) → stmt_view (of.Block label body) ≡ tree.Block label (stmts (map stmt_view body))
block_view label body = search (rules, stmt_lemmas, fold_out-RStmt)

match_view : (value : RExpr) (cases : List Arm) (other : List RStmt) →
    stmt_view (of.Match value cases other) ≡ tree.Match (expr_view value) (arms (map arm_view cases)) (stmts (map stmt_view other))
match_view value cases other = search (rules, stmt_lemmas, fold_out-RStmt)

assign_view : (place : RPlace) (value : RExpr) → stmt_view (plain.Assign place value) ≡ tree.Assign (place_view place) (expr_view value)
assign_view place value = search (rules, stmt_lemmas, fold_out-RStmt)

break_view : (label : List ℕ) → stmt_view (plain.Break label) ≡ tree.Break label
break_view label = search (rules, stmt_lemmas, fold_out-RStmt)

continue_view : (label : List ℕ) → stmt_view (plain.Continue label) ≡ tree.Continue label
continue_view label = search (rules, stmt_lemmas, fold_out-RStmt)

return_view : (value : RExpr) → stmt_view (plain.Return (Some value)) ≡ tree.Return (Some (expr_view value))
return_view value = search (rules, stmt_lemmas, fold_out-RStmt)

leave_view : stmt_view (plain.Return None) ≡ tree.Return None
leave_view = search (rules, stmt_lemmas, fold_out-RStmt)

module _ (frame : Frame) (which : RStmt) where
  by_tree : (one : Stmt) → stmt_view which ≡ one → run_stmt frame one ≡ run_stmt frame (stmt_view which)
  by_tree one is = ap (λ (found : Stmt). run_stmt frame found) (sym is)

  pub eval_runs : (value given : RExpr) → which ≡ plain.Eval value → given ≡ value → run_dropped frame (expr_view given) ≡ run_stmt frame (stmt_view which)
  eval_runs value given is given_is = by_tree (tree.Eval (expr_view given)) (ap stmt_view is ∙ eval_view value ∙ ap (λ (one : RExpr). tree.Eval (expr_view one)) (sym given_is))

  pub assign_runs : (place other : RPlace) (value given : RExpr) → which ≡ plain.Assign place value → other ≡ place → given ≡ value →
      run_stmt frame (tree.Assign (place_view other) (expr_view given)) ≡ run_stmt frame (stmt_view which)
  assign_runs place other value given is other_is given_is =
      by_tree _ (ap stmt_view is ∙ assign_view place value
      ∙ ap (λ (one : RPlace). tree.Assign (place_view one) (expr_view value)) (sym other_is)
      ∙ ap (λ (one : RExpr). tree.Assign (place_view other) (expr_view one)) (sym given_is))

  pub if_runs : (condition given : RExpr) (if_true if_false : List RStmt) → which ≡ of.If condition if_true if_false → given ≡ condition →
      run_stmt frame (tree.If (expr_view given) (stmts (map stmt_view if_true)) (stmts (map stmt_view if_false))) ≡ run_stmt frame (stmt_view which)
  if_runs condition given if_true if_false is given_is =
      by_tree _ (ap stmt_view is ∙ if_view condition if_true if_false
      ∙ ap (λ (one : RExpr). tree.If (expr_view one) (stmts (map stmt_view if_true)) (stmts (map stmt_view if_false))) (sym given_is))

  pub loop_runs : (label : Option (List ℕ)) (body : List RStmt) → which ≡ of.Loop label body → run_stmt frame (tree.Loop label (stmts (map stmt_view body))) ≡ run_stmt frame (stmt_view which)
  loop_runs label body is = by_tree _ (ap stmt_view is ∙ loop_view label body)

  pub block_runs : (label : List ℕ) (body : List RStmt) → which ≡ of.Block label body → run_stmt frame (tree.Block label (stmts (map stmt_view body))) ≡ run_stmt frame (stmt_view which)
  block_runs label body is = by_tree _ (ap stmt_view is ∙ block_view label body)

  pub break_runs : (label : List ℕ) → which ≡ plain.Break label → run_stmt frame (tree.Break label) ≡ run_stmt frame (stmt_view which)
  break_runs label is = by_tree _ (ap stmt_view is ∙ break_view label)

  pub continue_runs : (label : List ℕ) → which ≡ plain.Continue label → run_stmt frame (tree.Continue label) ≡ run_stmt frame (stmt_view which)
  continue_runs label is = by_tree _ (ap stmt_view is ∙ continue_view label)

  pub match_runs : (value given : RExpr) (cases : List Arm) (other : List RStmt) → which ≡ of.Match value cases other → given ≡ value →
      run_stmt frame (tree.Match (expr_view given) (arms (map arm_view cases)) (stmts (map stmt_view other))) ≡ run_stmt frame (stmt_view which)
  match_runs value given cases other is given_is =
      by_tree _ (ap stmt_view is ∙ match_view value cases other
      ∙ ap (λ (one : RExpr). tree.Match (expr_view one) (arms (map arm_view cases)) (stmts (map stmt_view other))) (sym given_is))

  pub copy_runs : (source target count from to bytes : RExpr) → which ≡ plain.CopyBytes source target count → from ≡ source → to ≡ target → bytes ≡ count →
      run_stmt frame (tree.CopyBytes (expr_view from) (expr_view to) (expr_view bytes)) ≡ run_stmt frame (stmt_view which)
  copy_runs source target count from to bytes is from_is to_is bytes_is =
      by_tree _ (ap stmt_view is ∙ copy_view source target count
      ∙ ap (λ (one : RExpr). tree.CopyBytes (expr_view one) (expr_view target) (expr_view count)) (sym from_is)
      ∙ ap (λ (one : RExpr). tree.CopyBytes (expr_view from) (expr_view one) (expr_view count)) (sym to_is)
      ∙ ap (λ (one : RExpr). tree.CopyBytes (expr_view from) (expr_view to) (expr_view one)) (sym bytes_is))

  pub return_runs : (value given : RExpr) → which ≡ plain.Return (Some value) → given ≡ value → run_stmt frame (tree.Return (Some (expr_view given))) ≡ run_stmt frame (stmt_view which)
  return_runs value given is given_is =
      by_tree _ (ap stmt_view is ∙ return_view value ∙ ap (λ (one : RExpr). tree.Return (Some (expr_view one))) (sym given_is))

  pub leave_runs : which ≡ plain.Return None → run_stmt frame (tree.Return None) ≡ run_stmt frame (stmt_view which)
  leave_runs is = by_tree _ (ap stmt_view is ∙ leave_view)
