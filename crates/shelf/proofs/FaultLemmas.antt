-- How counts of faults go on from one call to the next.
use Rattle.std.proofs.Common.{ℕ, ◌≤◌, arith, le_trans}
use Rattle.cr_base.specs.Count.{Rose}

-- a count that rose in the later of two calls rose in both together
pub rose_after : (before between now : ℕ) → before ≤ between → Rose between now → Rose before now
rose_after before between now later rose = omega arith

-- a count that rose in the earlier of two calls rose in both together
pub rose_before : (before between now : ℕ) → Rose before between → between ≤ now → Rose before now
rose_before before between now rose later = le_trans rose later
