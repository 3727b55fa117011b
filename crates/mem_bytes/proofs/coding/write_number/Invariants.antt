use Rattle.std.proofs.Common.{◌≡◌, ◌/◌, ◌^◌, ◌++◌, map, drop}
use Rattle.mem_bytes.specs.Coding.{bytes_of}
use Rattle.mem_bytes.specs.Memory.{byte_cell}
use Rattle.mem_bytes.proofs.coding.write_number.Given as goal

-- the bytes below the index are written
abbrev pub invariant-loop-index : goal.invariant-loop-index
invariant-loop-index l = record {
  written : l.cells ≡ map byte_cell (bytes_of l.index l.number) ++ drop l.index l.fn.cells;
  left : l.left ≡ l.number / 256 ^ l.index;
}
