use Rattle.std.proofs.Common.{◌≡◌, map, take}
use Rattle.mem_region.specs.Packed.{cell_of}
use Rattle.mem_region.proofs.packed.pack.Given as goal

abbrev pub invariant-loop-index : goal.invariant-loop-index
invariant-loop-index l = map cell_of (take l.index l.held) ≡ take l.index l.cells
