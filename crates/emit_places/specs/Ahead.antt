-- The last nest of a list that is entered at a node.
use Rattle.std.specs.Prelude.{ℕ, suc, ◌==◌, Bool, List, [], ◌∷◌, unwrap_or, if◌then◌else◌}
use Rattle.std.specs.HashMap.{HashMap, get_by}
use Rattle.emit_rules.specs.Places.{Leaving}

-- the number that a map has for a node, or 0
abbrev pub place_in : {S : Type 0} → HashMap ℕ ℕ S → ℕ → ℕ
place_in map node = unwrap_or (get_by (λ key. node == key) map) 0

-- how many ways lead to nodes that pass a test
abbrev pub count_if : (ℕ → Bool) → List Leaving → ℕ
count_if test [] = 0
count_if test (way ∷ others) = if test way.to then suc (count_if test others) else count_if test others
