-- Things of units, each with its unit, one unit behind another.
use Rattle.std.specs.Prelude.{ℕ, List, map}
use Rattle.cx_core.specs.Trees.{CUnit}
use Rattle.cx_core.specs.Views.{view_unit}
use Rattle.cx_links.specs.Program.{CFound, from_each}
use Rattle.cx_linked.specs.declared.found.Found.{Found}

abbrev pub found_at : {A : Type 0} → ℕ → CUnit → A → CFound A
found_at unit home thing = record { unit = unit; home = home; thing = thing }

abbrev pub found_in : {A : Type 0} → (CUnit → List A) → CUnit → ℕ → List (CFound A)
found_in held one unit = map (found_at unit one) (held one)

-- all things of a kind
abbrev pub all_found : {A : Type 0} → (CUnit → List A) → List CUnit → List (CFound A)
all_found held units = from_each (found_in held) 0 units

-- ---- as they are kept

abbrev pub view_found : {A B : Type 0} → (A → B) → Found A → CFound B
view_found view one = record { unit = one.unit; home = view_unit one.home.now; thing = view one.thing.now }
