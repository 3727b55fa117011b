-- Lists of typed statements, as the walk and as trees say them.
use Rattle.std.proofs.Common.{◌≡◌, refl, ap, List, [], ◌∷◌}
use Rattle.cx_core.specs.Trees.{CStmt, more_stmts}
use Rattle.cx_core.specs.Views as view
use Rattle.cx_rules.specs.UnitWalk as unit

pub same_stmts : (list : List CStmt) → unit.stmts_of list ≡ view.stmts_of list
same_stmts [] = refl
same_stmts (first ∷ others) = ap (more_stmts first) (same_stmts others)
