use Rattle.std.proofs.Common.{◌≡◌, ◌+◌, ◌*◌, ◌^◌, ◌<◌, drop}
use Rattle.mem_bytes.specs.Coding.{bits_of}
use Rattle.mem_bytes.specs.Reading.{are_set_bytes}
use Rattle.mem_bytes.proofs.coding.set_number.Given as goal

-- the cells below the index are read
abbrev pub invariant-loop-index : goal.invariant-loop-index
invariant-loop-index l = record {
  tested : are_set_bytes l.cells ≡ are_set_bytes (drop l.index l.cells);
  bits : bits_of l.cells ≡ l.number + 2 ^ (8 * l.index) * bits_of (drop l.index l.cells);
  small : l.number < 2 ^ (8 * l.index);
}
