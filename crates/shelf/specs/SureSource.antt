-- What a source that never fails has still to give, of which contracts see the bytes.
use Rattle.std.specs.Prelude.{ℕ, List, Some}
use Rattle.shelf.specs.Source.{SourceState}

-- no call on it ever failed
abbrev pub state_of : List ℕ → SourceState
state_of bytes = record { rest = Some bytes; faults = 0 }
