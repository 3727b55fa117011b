-- What the reads of a file take from it.
use Rattle.std.specs.Prelude.{◌≡◌, ℕ, List, ◌++◌, length, Option}
use Rattle.std.specs.Io.KnownBytes.{Consumes}

-- a read moved `count` bytes from the front of what a reader has left to the end of a list
abbrev pub Moves : Option (List ℕ) → Option (List ℕ) → List ℕ → List ℕ → ℕ → Type 0
Moves before after old new count =
    (piece : List ℕ) × (length piece ≡ count) × (new ≡ old ++ piece) × Consumes before after piece
