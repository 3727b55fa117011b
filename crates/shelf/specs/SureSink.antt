-- What a sink that never fails has taken, of which contracts see the copy of the bytes, if it could
-- keep one.
use Rattle.std.specs.Prelude.{ℕ, List, Option}
use Rattle.shelf.specs.Sink.{SinkState}

-- no call on it ever failed
abbrev pub state_of : Option (List ℕ) → SinkState
state_of written = record { written = written; faults = 0 }
