-- Statements behind others, and a last `return`.
use Rattle.std.proofs.Common.{◌≡◌, ◌∙◌, Bool, true, false, if◌then◌else◌, List, [], ◌∷◌, ◌++◌, map, Some, refl, sym, ap}
use Rattle.rs_mean.specs.Laws.{behind}
use Rattle.rs_text.specs.Tree.{Expr, Stmt, Return, Stmts, no_stmts, more_stmts, stmts}
use Rattle.rs_tree.specs.Views.{stmt_view}
use Rattle.rs_tree.specs.declared.stmt.RStmt.{RStmt}
use Rattle.whole_bodies.specs.Bodies.{is_return, ends_in_return, with_last_return}

pub stmts_append : (xs ys : List RStmt) → stmts (map stmt_view (xs ++ ys)) ≡ behind (stmts (map stmt_view xs)) (stmts (map stmt_view ys))
stmts_append [] ys = refl
stmts_append (x ∷ xs) ys = ap (more_stmts (stmt_view x)) (stmts_append xs ys)

-- statements behind others that were found one by one
pub text_joined : (list : List Stmt) (text : Stmts) (xs ys whole : List RStmt) → whole ≡ xs ++ ys → map stmt_view xs ≡ list → stmts (map stmt_view ys) ≡ text → stmts (map stmt_view whole) ≡ behind (stmts list) text
text_joined list text xs ys whole is first second =
    ap (λ (it : List RStmt). stmts (map stmt_view it)) is ∙ stmts_append xs ys ∙ ap (λ (it : List Stmt). behind (stmts it) (stmts (map stmt_view ys))) first ∙ ap (behind (stmts list)) second

pub last_return : (first : List RStmt) (last : RStmt) → ends_in_return (stmts (map stmt_view (first ++ last ∷ []))) ≡ is_return (stmt_view last)
last_return [] last = refl
last_return (one ∷ []) last = refl
last_return (one ∷ (other ∷ others)) last = last_return (other ∷ others) last

-- a `return` was put behind statements that didn't end in one
pub return_pushed : (e : Expr) (body made : List RStmt) (one : RStmt) → ends_in_return (stmts (map stmt_view body)) ≡ false → made ≡ body ++ one ∷ [] → stmt_view one ≡ Return (Some e) →
    stmts (map stmt_view made) ≡ with_last_return true e (stmts (map stmt_view body))
return_pushed e body made one isnt is here =
    ap (λ (list : List RStmt). stmts (map stmt_view list)) is
    ∙ stmts_append body (one ∷ [])
    ∙ ap (λ (last : Stmt). behind (stmts (map stmt_view body)) (more_stmts last no_stmts)) here
    ∙ sym (ap (λ (ends : Bool). if ends then stmts (map stmt_view body) else behind (stmts (map stmt_view body)) (more_stmts (Return (Some e)) no_stmts)) isnt)
