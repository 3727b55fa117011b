use Rattle.std.proofs.Common.{◌≡◌, ◌++◌, take, drop}
use Rattle.mem_bytes.specs.Coding.{pointer_bytes}
use Rattle.mem_bytes.proofs.coding.write_pointer.Given as goal

-- the bytes below the index are written
abbrev pub invariant-loop-index : goal.invariant-loop-index
invariant-loop-index l = l.cells ≡ take l.index (pointer_bytes l.of) ++ drop l.index l.fn.cells
