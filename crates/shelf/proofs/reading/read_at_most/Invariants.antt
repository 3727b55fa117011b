use Rattle.std.proofs.Common.{ℕ, ◌+◌, ◌-◌, ◌≤◌, List, length, Option, vec_len}
use Rattle.std.specs.Io.KnownBytes.{Consumes}
use Rattle.shelf.proofs.reading.read_at_most.Given as goal

-- the bytes read so far were taken from the front of the file, and are no more than `limit` + 1
pub record IsUnderWay (bytes : List ℕ) (limit : ℕ) (before now : Option (List ℕ)) : Type 0 where
  pub taken : Consumes before now bytes
  pub sparing : length bytes ≤ limit + 1

abbrev pub invariant-loop-bytes : goal.invariant-loop-bytes
invariant-loop-bytes g l = IsUnderWay l.bytes.items l.limit (g.F.Read.remaining l.initial.file) (g.F.Read.remaining l.file)

abbrev pub decreases-loop-bytes : goal.decreases-loop-bytes
decreases-loop-bytes g l = l.limit + 1 - vec_len l.bytes
