-- What a store in a region is to its callers.
use Rattle.mem_bytes.specs.Counted.{Limit}
use Rattle.mem_bytes.specs.Memory.{Blocks}

-- a memory, and how much of it the region may hold
pub record Region : Type 0 where
  pub limit : Limit
  pub memory : Blocks
