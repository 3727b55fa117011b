-- Accesses by their faults.
use Rattle.std.proofs.Common.{◌≡◌, refl, sym, ◌∙◌, ap, rules, ℕ, ◌+◌, nat_le, Bool, true, false, List, length, Option, Some, None, slice_get, Result, Ok, Err}
use Rattle.cx_access.specs.Finds.{fault_in, unless}
use Rattle.cx_mean.specs.Operands.{CWhy, accessed}
use Rattle.mem_bytes.specs.Access.{and_then, part_at, part_of, live_read}
use Rattle.mem_bytes.specs.declared.cell.Cell.{Cell}
use Rattle.mem_bytes.specs.declared.fault.Fault.{Fault}
use Rattle.mem_bytes.specs.declared.fault.Fault.TheVariants as fault
use Rattle.mem_bytes.specs.declared.store.BlockState.{BlockState}
use Rattle.mem_bytes.specs.declared.value.Ptr.{Ptr}
use Rattle.mem_bytes.specs.Memory.{Block, Blocks, block_state, live_block, size_of}

-- what is found behind an access
pub by_fault : {A B : Type 0} (part : Result A Fault) (found : Result B CWhy) → and_then (accessed part) (λ _. found) ≡ unless (fault_in part) found
by_fault (Ok value) found = refl
by_fault (Err fault) found = refl
