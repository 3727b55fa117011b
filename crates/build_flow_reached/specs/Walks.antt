-- The walk over what is reached, by numbers of places.
use Rattle.std.specs.Prelude.{ℕ, zero, suc, ◌+◌, Bool, true, false, not, if◌then◌else◌, List, [], ◌∷◌, ◌++◌, length, Option, Some, None, slice_get, slice_set}

-- there is a place, and it wasn't seen
abbrev pub is_new : Option Bool → Bool
is_new None = false
is_new (Some was_seen) = not was_seen

module _ (arms : ℕ → List ℕ) where
  -- the places that are reached from those ahead, beside those that were seen; no more of them are looked at
  abbrev pub seen_from : (left : ℕ) → (ahead : List ℕ) → (seen : List Bool) → List Bool
  seen_from zero ahead seen = seen
  seen_from (suc left) [] seen = seen
  seen_from (suc left) (place ∷ ahead) seen =
      if is_new (slice_get seen place) then seen_from left (arms place ++ ahead) (slice_set seen place true)
      else seen_from left ahead seen

  -- the arms of what wasn't seen, where the first has a number
  abbrev pub unseen_from : ℕ → List Bool → ℕ
  unseen_from number [] = 0
  unseen_from number (one ∷ others) = (if one then 0 else length (arms number)) + unseen_from (suc number) others

  -- how much is left to look at
  abbrev pub left_of : List ℕ → List Bool → ℕ
  left_of ahead seen = length ahead + unseen_from 0 seen

  abbrev pub all_seen : List ℕ → List Bool → List Bool
  all_seen ahead seen = seen_from (left_of ahead seen) ahead seen
