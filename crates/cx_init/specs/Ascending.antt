-- Paths that ascend. Named by the contracts of parts alone.
use Rattle.std.specs.Prelude.{ℕ, Bool, true, not, ◌&&◌, map, List, [], ◌∷◌}
use Rattle.cx_init.specs.declared.stored.Stored.{Stored}
use Rattle.cx_rules.specs.Initial.{comes_before}

abbrev pub paths_of : List Stored → List (List ℕ)
paths_of stored = map (λ (one : Stored). one.path) stored

-- a later path stands behind an earlier one
abbrev pub stands_behind : (earlier later : List ℕ) → Bool
stands_behind earlier later = not (comes_before later earlier)

-- the first of these paths, where there is one, stands behind a path
abbrev pub next_behind : List ℕ → List (List ℕ) → Bool
next_behind path [] = true
next_behind path (next ∷ others) = stands_behind path next

-- each path stands behind the one before
abbrev pub ascend : List (List ℕ) → Bool
ascend [] = true
ascend (path ∷ others) = next_behind path others && ascend others

-- the last of these paths, or one in front of them
abbrev pub last_of : List ℕ → List (List ℕ) → List ℕ
last_of path [] = path
last_of path (next ∷ others) = last_of next others

-- a path stands behind the last of these, where there is one
abbrev pub ends_before : List (List ℕ) → List ℕ → Bool
ends_before [] later = true
ends_before (path ∷ others) later = stands_behind (last_of path others) later

-- the first of these paths, where there is one, stands behind the last of those
abbrev pub ends_before_more : (those these : List (List ℕ)) → Bool
ends_before_more those [] = true
ends_before_more those (next ∷ others) = ends_before those next

-- each path of both lists, one behind the other, stands behind the one before
abbrev pub ascend_joined : (those these : List (List ℕ)) → Bool
ascend_joined those these = (ascend those && ascend these) && ends_before_more those these

-- each path stands behind the one before, and a path behind all of them
abbrev pub stand_before : List (List ℕ) → List ℕ → Bool
stand_before paths later = ascend paths && ends_before paths later
