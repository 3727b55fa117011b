use Rattle.std.proofs.Common.{◌≡◌, ◌-◌, ◌/◌, ◌^◌, ◌++◌, replicate}
use Rattle.mem_bytes.specs.Bits.{bit_cells}
use Rattle.mem_bytes.specs.Memory.{unset_cell}
use Rattle.cx_puts.proofs.bits.bit_cells.Given as goal

-- the bytes below the index are written
abbrev pub invariant-loop-index : goal.invariant-loop-index
invariant-loop-index l = record {
  written : l.cells ≡ bit_cells l.index l.bits l.set ++ replicate (8 - l.index) unset_cell;
  bits_left : l.bits_left ≡ l.bits / 256 ^ l.index;
  set_left : l.set_left ≡ l.set / 256 ^ l.index;
}
