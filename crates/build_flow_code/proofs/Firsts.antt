-- Places in lists of statements.
use Rattle.std.proofs.Common.{◌≡◌, ℕ, zero, suc, ◌<◌, List, [], ◌∷◌, map, drop, length, refl, arith}
use Rattle.build_flow_nodes.specs.Builder.{statement_at, first_place}
use Rattle.build_flow_nodes.specs.Points.{FlowPlace}
use Rattle.cx_core.specs.Views.{stmts_of, view_stmt}
use Rattle.cx_core.specs.declared.stmt.CoreStmt.{CoreStmt}
use Rattle.cx_mean.specs.BodyGraph.{CPath}

pub first_there : (stmts : List CoreStmt) (index number : ℕ) (path : CPath) (place : FlowPlace) → index < length stmts →
    first_place (stmts_of (map view_stmt (drop index stmts))) number path place ≡ statement_at (number ∷ path)
first_there [] index number path place bound = absurd (omega (arith, bound))
first_there (one ∷ others) zero number path place bound = refl
first_there (one ∷ others) (suc index) number path place bound = first_there others index number path place (omega (arith, bound))
