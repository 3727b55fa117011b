-- Laws of the checks: the walk that stops at the first broken node finds what the walk over all nodes finds.
use Rattle.std.specs.Prelude.{◌≡◌, ℕ}
use Rattle.cx_rules.specs.Readings.{verdict}
use Rattle.cx_rules.specs.Scope.{CScope, new_scope}
use Rattle.cx_rules.specs.Units.{seen_expr, seen_type_name, seen_initialiser, seen_unit, check_expr, check_type_name, check_initialiser, check_unit}
use Rattle.cx_rules.specs.Pieces.{CTarget}
use Rattle.cx_tree.specs.Trees.{ExprTree, TypeNameTree, InitialiserTree, UnitTree}

-- in every scope the walk over an expression stops at the first broken one of all its nodes, and means what it means where none is broken
abbrev pub ExpressionsStop : Type 0
ExpressionsStop = (tree : ExprTree) (scope : CScope) → check_expr tree scope ≡ verdict (seen_expr tree scope)

abbrev pub TypeNamesStop : Type 0
TypeNamesStop = (tree : TypeNameTree) (scope : CScope) → check_type_name tree scope ≡ verdict (seen_type_name tree scope)

abbrev pub InitialisersStop : Type 0
InitialisersStop = (target : CTarget) (tree : InitialiserTree) (scope : CScope) →
    check_initialiser target tree scope ≡ verdict (seen_initialiser target tree scope)

-- the same of a unit under each number
abbrev pub UnitsStop : Type 0
UnitsStop = (tree : UnitTree) (number : ℕ) → check_unit tree (new_scope number) ≡ verdict (seen_unit number tree)
