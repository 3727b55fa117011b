-- What contracts see of a source over a reader.
use Rattle.std.specs.Prelude.{◌≡◌, ℕ, List, drop, slice_get, Option, Some, None, IfSome}
use Rattle.std.specs.Io.KnownBytes.{prepend_known}
use Rattle.shelf.specs.Source.{SourceState}

-- a source over a reader: the reader; the bytes that were read from it and not given yet, in order; and
-- how many calls failed, which stands still at the last value of a `u64`
pub record StdSourceView (R : Type 0) : Type 0 where
  pub reader : R
  pub ahead : List ℕ
  pub faults : ℕ

-- it doesn't tell what is to come
abbrev pub state_of : {R : Type 0} → StdSourceView R → SourceState
state_of source = record { rest = None; faults = source.faults }

-- what is to come where the reader says what it has left: what was read and not given yet, and then that
abbrev pub to_come : {R : Type 0} → (R → Option (List ℕ)) → StdSourceView R → Option (List ℕ)
to_come remaining source = prepend_known source.ahead (remaining source.reader)

-- a read gave the first of these bytes, or none where none is left, and the others are to come
abbrev pub GivesFirst : Option ℕ → Option (List ℕ) → Option (List ℕ) → Type 0
GivesFirst next before after =
    IfSome before (λ bytes. (next ≡ slice_get bytes 0) × (after ≡ Some (drop 1 bytes)))
