-- Places of structures and unions.
use Rattle.std.specs.Prelude.{◌≡◌, ℕ, ◌%◌, ◌&&◌, ◌==◌, nat_le, if◌then◌else◌, List, Option, Some, None, Result, Ok, Err}
use Rattle.cr_base.specs.declared.layout.Laid.{Laid}
use Rattle.cx_mean.specs.Accesses.{CStored, exact_or_apart}
use Rattle.cx_mean.specs.Marks.{Marks, bits_of_bytes, with_write}
use Rattle.cx_mean.specs.Operands.{CWhy, accessed, cells, sequenced_after}
use Rattle.mem_bytes.specs.Access.{and_then, record_at, after_put_record}
use Rattle.mem_bytes.specs.declared.value.Ptr.{Ptr}
use Rattle.mem_bytes.specs.Memory.{Blocks}
use Rattle.mem_bytes.specs.declared.cell.Cell.{Cell}
use Rattle.mem_bytes.specs.declared.fault.Fault.{Fault}
use Rattle.mem_bytes.specs.declared.fault.Fault.TheVariants.{Misaligned}

-- what is wrong with the alignment of a place in a block, if something is
abbrev pub misaligned : (align held offset : ℕ) → Option Fault
misaligned align held offset = if offset % align == 0 && nat_le align held then None else Some Misaligned

-- the store of cells, once it is known that they lie inside of their object
abbrev pub cells_put : Blocks → Ptr → Marks → List Cell → Option Ptr → Laid → Result CStored CWhy
cells_put blocks at marks held from laid =
    and_then (sequenced_after marks (bits_of_bytes at laid.size)) (λ range.
    and_then (accessed (record_at blocks at laid.size laid.align)) (λ _.
    and_then (exact_or_apart laid.size at from) (λ _.
    and_then (accessed (after_put_record blocks at laid.align held)) (λ after.
    Ok (record { value = cells held None; marks = with_write range marks; blocks = after })))))
