-- The objects that a statement holds.
use Rattle.std.specs.Prelude.{ℕ, List}
use Rattle.cx_core.specs.Trees.{CStmt, stmt}

abbrev pub own_objects : CStmt → List ℕ
own_objects (stmt place objects form) = objects

abbrev pub with_objects : List ℕ → CStmt → CStmt
with_objects objects (stmt place own form) = stmt place objects form
