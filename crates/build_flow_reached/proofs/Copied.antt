-- Copies of statements with the labels that they have.
use Rattle.std.proofs.Common.{◌≡◌, ◌∙◌, List, [], ◌∷◌, Some, None, map, Result, Ok, Err, IfOk, refl, ap, sym}
use Rattle.emit_stmts.specs.Copies.{stmt_copy, stmts_copy, arms_copy}
use Rattle.emit_stmts.specs.declared.labels.Labels.TheVariants.{AsTheyAre}
use Rattle.rs_text.specs.Tree.{Stmt, Assign, Eval, CopyBytes, If, Loop, Block, Break, Continue, Match, Return, Stmts, no_stmts, more_stmts, stmts, LiteralArm, Arms, no_arms, more_arms}
use Rattle.rs_tree.specs.Views.{stmt_view}
use Rattle.rs_tree.specs.declared.stmt.RStmt.{RStmt}

mutual
  same_stmt : (s : Stmt) → stmt_copy AsTheyAre s ≡ s
  same_stmt (Assign p e) = refl
  same_stmt (Eval e) = refl
  same_stmt (CopyBytes source target count) = refl
  same_stmt (If condition if_true if_false) = let one = as_they_are if_true in let other = as_they_are if_false in cc
  same_stmt (Loop None body) = ap (Loop None) (as_they_are body)
  same_stmt (Loop (Some label) body) = ap (Loop (Some label)) (as_they_are body)
  same_stmt (Block label body) = ap (Block label) (as_they_are body)
  same_stmt (Break label) = refl
  same_stmt (Continue label) = refl
  same_stmt (Match e cases other) = let one = same_arms cases in let rest = as_they_are other in cc
  same_stmt (Return value) = refl

  as_they_are : (ss : Stmts) → stmts_copy AsTheyAre ss ≡ ss
  as_they_are no_stmts = refl
  as_they_are (more_stmts s ss) = let one = same_stmt s in let rest = as_they_are ss in cc

  same_arms : (cases : Arms) → arms_copy AsTheyAre cases ≡ cases
  same_arms no_arms = refl
  same_arms (more_arms (LiteralArm value ty body) others) = let one = as_they_are body in let rest = same_arms others in cc

-- a list of statements is told by the statements
listed : Stmts → List Stmt
listed no_stmts = []
listed (more_stmts s ss) = s ∷ listed ss

same_list : (list : List Stmt) → listed (stmts list) ≡ list
unfolding listed
same_list [] = refl
same_list (s ∷ ss) = ap (λ (rest : List Stmt). s ∷ rest) (same_list ss)

pub copied : {E : Type 0} (list : List RStmt) (made : Result (List RStmt) E) → IfOk made (λ made. stmts (map stmt_view made) ≡ stmts_copy AsTheyAre (stmts (map stmt_view list))) →
    IfOk made (λ made. map stmt_view made ≡ map stmt_view list)
copied list (Ok made) is = sym (same_list (map stmt_view made)) ∙ ap listed (is ∙ as_they_are (stmts (map stmt_view list))) ∙ same_list (map stmt_view list)
copied list (Err why) is = tt
