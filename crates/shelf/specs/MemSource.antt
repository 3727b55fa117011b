-- What contracts see of a source over memory.
use Rattle.std.specs.Prelude.{ℕ, List, Some}
use Rattle.shelf.specs.Source.{SourceState}

-- a source over memory: the bytes still to come; the numbers, from 0 on, of the calls that fail; and
-- how many calls were made and how many failed, which stand still at the last value of a `u64`
pub record MemSourceView : Type 0 where
  pub rest : List ℕ
  pub fails : List ℕ
  pub calls : ℕ
  pub faults : ℕ

-- what such a source has still to give, and remembers
abbrev pub state_of : MemSourceView → SourceState
state_of source = record { rest = Some source.rest; faults = source.faults }
