-- Counts that an impossible overflow can keep from being told.
use Rattle.std.specs.Prelude.{◌≡◌, ℕ, ◌^◌, ◌≤◌, Option, Some, None}

-- a count, or none only where no number of 64 bits is it
abbrev pub Counts : Option ℕ → ℕ → Type 0
Counts (Some found) count = found ≡ count
Counts None count = 2 ^ 64 ≤ count
