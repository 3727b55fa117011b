-- What contracts see of a sink over memory.
use Rattle.std.specs.Prelude.{ℕ, List, Option}
use Rattle.shelf.specs.Sink.{SinkState}

-- a sink over memory: its copy of the bytes taken, where it could keep one; the numbers, from 0 on,
-- of the calls that fail; how many bytes a call takes at most; and how many calls were made and how
-- many failed, which stand still at the last value of a `u64`
pub record MemSinkView : Type 0 where
  pub written : Option (List ℕ)
  pub fails : List ℕ
  pub most : ℕ
  pub calls : ℕ
  pub faults : ℕ

-- what such a sink has taken and remembers
abbrev pub state_of : MemSinkView → SinkState
state_of sink = record { written = sink.written; faults = sink.faults }
