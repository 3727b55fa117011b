-- The last statement of a body.
use Rattle.std.proofs.Common.{◌≡◌, Bool, false, List, [], ◌∷◌, map, refl}
use Rattle.rs_mean.specs.Typing.{gives_value, ends_with_value}
use Rattle.rs_text.specs.Tree.{Stmt, stmts}
use Rattle.rs_tree.specs.declared.stmt.RStmt.{RStmt}
use Rattle.rs_tree.specs.Views.{stmt_view}
use Rattle.rs_types.specs.Bodies.{ends_from}

ends : (before : Bool) (stmt : Stmt) (others : List Stmt) → ends_from before (stmt ∷ others) ≡ ends_with_value (stmts (stmt ∷ others))
ends before stmt [] = refl
ends before stmt (other ∷ others) = ends (gives_value stmt) other others

ends_all : (list : List Stmt) → ends_from false list ≡ ends_with_value (stmts list)
ends_all [] = refl
ends_all (stmt ∷ others) = ends false stmt others

pub last_gives : (body : List RStmt) → ends_from false (map stmt_view body) ≡ ends_with_value (stmts (map stmt_view body))
last_gives body = ends_all (map stmt_view body)
