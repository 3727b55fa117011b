-- An `if` by which of its sides have statements.
use Rattle.std.proofs.Common.{◌≡◌, Bool, true, false, List, [], ◌∷◌, map, refl}
use Rattle.std.specs.Prelude.{IsTrue}
use Rattle.emit_rules.specs.Texts.{negated, if_else, if_of, one_stmt}
use Rattle.rs_text.specs.Tree.{Expr, If, stmts}
use Rattle.rs_tree.specs.declared.stmt.RStmt.{RStmt}
use Rattle.rs_tree.specs.Views.{stmt_view}

pub if_both : (e : Expr) (a b : List RStmt) → (a ≡ [] → ⊥) → (b ≡ [] → ⊥) → if_of e (stmts (map stmt_view a)) (stmts (map stmt_view b)) ≡ if_else e (stmts (map stmt_view a)) (stmts (map stmt_view b))
if_both e [] b some other = absurd (some refl)
if_both e (x ∷ a) [] some other = absurd (other refl)
if_both e (x ∷ a) (y ∷ b) some other = refl

pub if_other : (e : Expr) (a b : List RStmt) → a ≡ [] → (b ≡ [] → ⊥) → if_of e (stmts (map stmt_view a)) (stmts (map stmt_view b)) ≡ one_stmt (If (negated e) (stmts (map stmt_view b)) (stmts (map stmt_view a)))
if_other e [] [] none other = absurd (other refl)
if_other e [] (y ∷ b) none other = refl
if_other e (x ∷ a) b none other = absurd cc

-- a list of which a test says that it isn't empty
pub not_none : {A : Type 0} (xs : List A) (test : Bool) → test ≡ false → (xs ≡ [] → IsTrue test) → xs ≡ [] → ⊥
not_none xs true is to empty = absurd cc
not_none xs false is to empty = never (to empty)
  where
    never : false ≡ true → ⊥
    never is = cc
