-- What a sink of bytes has taken, and what a write adds to it.
use Rattle.std.specs.Prelude.{◌≡◌, ℕ, List, ◌++◌, Option, Some, None, ⊤}

-- what is known of a sink
pub record SinkState : Type 0 where
  -- where told: all bytes taken so far, in order
  pub written : Option (List ℕ)
  -- how many calls have failed; it never falls, and stands still at the last value of a `u64`
  pub faults : ℕ

-- the bytes taken grew by a piece. Nothing is said where they aren't told afterwards; once they
-- aren't told they are never told again.
abbrev pub Appended : List ℕ → Option (List ℕ) → Option (List ℕ) → Type 0
Appended piece before None = ⊤
Appended piece None (Some after) = ⊥
Appended piece (Some before) (Some after) = after ≡ before ++ piece
