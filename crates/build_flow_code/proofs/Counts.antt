-- Counts of statements.
use Rattle.std.proofs.Common.{◌≡◌, suc, List, [], ◌∷◌, map, length, refl, ap}
use Rattle.cx_core.specs.Views.{stmts_of, view_stmt}
use Rattle.cx_core.specs.declared.stmt.CoreStmt.{CoreStmt}
use Rattle.cx_mean.specs.BodyGraph.{count_of}

pub counted : (stmts : List CoreStmt) → count_of (stmts_of (map view_stmt stmts)) ≡ length stmts
counted [] = refl
counted (first ∷ others) = ap suc (counted others)
