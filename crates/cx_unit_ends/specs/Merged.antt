-- Objects in the order of their numbers, among others that are in order.
use Rattle.std.specs.Prelude.{ℕ, nat_le, Bool, false, not, if◌then◌else◌, List, [], ◌∷◌, ◌++◌}
use Rattle.cx_core.specs.Trees.{CObject}

-- the first has a smaller number
abbrev pub is_first_below : ℕ → List CObject → Bool
is_first_below number [] = false
is_first_below number (one ∷ others) = not (nat_le number one.object)

-- of objects in order those in front of a number, and those behind
abbrev pub taken_below : ℕ → List CObject → List CObject
taken_below number [] = []
taken_below number (one ∷ others) = if nat_le number one.object then [] else one ∷ taken_below number others

abbrev pub left_above : ℕ → List CObject → List CObject
left_above number [] = []
left_above number (one ∷ others) = if nat_le number one.object then one ∷ others else left_above number others

abbrev pub merged : List CObject → List CObject → List CObject
merged [] others = others
merged (one ∷ objects) others = taken_below one.object others ++ one ∷ merged objects (left_above one.object others)
