use Rattle.std.proofs.Common.{◌≡◌, drop}
use Rattle.mem_bytes.specs.Coding.{are_bytes_of}
use Rattle.mem_bytes.proofs.coding.are_bytes_of.Given as goal

abbrev pub invariant-loop-index : goal.invariant-loop-index
invariant-loop-index l = are_bytes_of l.of l.index (drop l.index l.cells) ≡ are_bytes_of l.of 0 l.cells
