-- The last statement of a body, as the code comes to it.
use Rattle.std.specs.Prelude.{Bool, List, [], ◌∷◌}
use Rattle.rs_mean.specs.Typing.{gives_value}
use Rattle.rs_text.specs.Tree.{Stmt}

-- whether the last statement gives a value, and `ends` where there is none
abbrev pub ends_from : Bool → List Stmt → Bool
ends_from ends [] = ends
ends_from ends (stmt ∷ stmts) = ends_from (gives_value stmt) stmts
