use Rattle.std.proofs.Common.{◌≡◌, length}
use Rattle.std.specs.Io.KnownBytes.{Keeps}
use Rattle.shelf.proofs.reading.read_retrying.Given as goal

abbrev pub invariant-loop-try : goal.invariant-loop-try
invariant-loop-try g l = (length l.piece ≡ length l.initial.piece) × Keeps (g.F.Read.remaining l.initial.file) (g.F.Read.remaining l.file)
