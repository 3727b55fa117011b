-- What a worked unit shows: the first broken rule of all its nodes and its line, or that none is broken.
use Rattle.std.specs.Prelude.{◌≡◌, ℕ, Option, None, Some}
use Rattle.cr_base.specs.declared.refusal.Refusal.{Refusal}
use Rattle.cr_base.specs.declared.rule.Rule.{Rule}
use Rattle.cx_rules.specs.Readings.{CChecked, stops, fine}
use Rattle.cx_rules.specs.Scope.{new_scope}
use Rattle.cx_rules.specs.Units.{check_unit}
use Rattle.cx_core.specs.Trees.{CUnit}
use Rattle.cx_tree.specs.Trees.{UnitTree}

abbrev pub refusal_in : CChecked CUnit → Option Refusal
refusal_in (stops refusal) = Some refusal
refusal_in (fine meaning scope) = None

-- the first broken node of a unit under the number 0
abbrev pub broken : UnitTree → Option Refusal
broken tree = refusal_in (check_unit tree (new_scope 0))

abbrev pub is_fine : UnitTree → Type 0
is_fine tree = broken tree ≡ None

abbrev pub is_refused : UnitTree → Rule → ℕ → Type 0
is_refused tree rule line = broken tree ≡ Some (record { rule = rule; unit = 0; line = line })
