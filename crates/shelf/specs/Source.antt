-- What a source of bytes still has to give, and what a read takes from it.
use Rattle.std.specs.Prelude.{◌≡◌, ℕ, List, drop, slice_get, Option, IfSome, option_map}

-- what is known of a source
pub record SourceState : Type 0 where
  -- where told: all bytes still to come, in order
  pub rest : Option (List ℕ)
  -- how many calls have failed; it never falls, and stands still at the last value of a `u64`
  pub faults : ℕ

-- a read gives the first byte that is to come, or none where no byte is left. Nothing is said where
-- these bytes aren't told.
abbrev pub IsFirst : Option ℕ → Option (List ℕ) → Type 0
IsFirst next rest = IfSome rest (λ bytes. next ≡ slice_get bytes 0)

-- what is to come behind the first byte; nothing is to come behind the end
abbrev pub behind_first : Option (List ℕ) → Option (List ℕ)
behind_first rest = option_map (drop 1) rest
