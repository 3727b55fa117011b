-- Bodies without statements.
use Rattle.std.proofs.Common.{◌≡◌, Bool, true, false, List, [], ◌∷◌, map, refl}
use Rattle.std.specs.Prelude.{IsTrue}
use Rattle.emit_rules.specs.Places.{is_empty}
use Rattle.rs_text.specs.Tree.{stmts}
use Rattle.rs_tree.specs.Views.{stmt_view}
use Rattle.rs_tree.specs.declared.stmt.RStmt.{RStmt}

pub empty_is : (body : List RStmt) (test : Bool) → (IsTrue test → body ≡ []) → (body ≡ [] → IsTrue test) → test ≡ is_empty (stmts (map stmt_view body))
empty_is [] test to from = from refl
empty_is (s ∷ body) false to from = refl
empty_is (s ∷ body) true to from = absurd (let none : (s ∷ body) ≡ [] = to refl in cc)
