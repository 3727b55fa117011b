use Rattle.std.proofs.Common.{◌≡◌, ◌-◌, ◌++◌, map, replicate, take}
use Rattle.mem_bytes.specs.Memory.{unset_cell}
use Rattle.mem_region.specs.Packed.{cell_of}
use Rattle.mem_region.proofs.packed.unpacked.Given as goal

abbrev pub invariant-loop-index : goal.invariant-loop-index
invariant-loop-index l =
    l.cells ≡ map cell_of (take l.index l.held) ++ replicate (8 - l.index) unset_cell
