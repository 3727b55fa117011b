-- What contracts see of a sink over a writer.
use Rattle.std.specs.Prelude.{ℕ, None}
use Rattle.shelf.specs.Sink.{SinkState}

-- a sink over a writer: the writer, and how many calls failed, which stands still at the last value
-- of a `u64`
pub record StdSinkView (W : Type 0) : Type 0 where
  pub writer : W
  pub faults : ℕ

-- it doesn't tell what it has taken
abbrev pub state_of : {W : Type 0} → StdSinkView W → SinkState
state_of sink = record { written = None; faults = sink.faults }
