-- The store of a number in a bit-field whose place is one of the profile.
use Rattle.std.specs.Prelude.{ℕ, ◌^◌, ℤ, Result, Ok}
use Rattle.cr_base.specs.declared.scalar.Scalar.{Scalar}
use Rattle.cr_base.specs.Scalar.{residue}
use Rattle.cx_mean.specs.Accesses.{CStored, field_value}
use Rattle.cx_mean.specs.Marks.{Marks, bits_of_field, with_write}
use Rattle.cx_mean.specs.Operands.{CWhy, accessed, scalar, sequenced_after}
use Rattle.mem_bytes.specs.Access.{and_then, part_at, after_put_bits}
use Rattle.mem_bytes.specs.Bits.{bytes_touched}
use Rattle.mem_bytes.specs.declared.value.Ptr.{Ptr}
use Rattle.mem_bytes.specs.Memory.{Blocks}

abbrev pub field_stored : Blocks → Ptr → (bit width : ℕ) → Marks → Scalar → ℤ → Result CStored CWhy
field_stored blocks at bit width marks kind number =
    and_then (accessed (part_at blocks at (bytes_touched bit width))) (λ _.
    and_then (sequenced_after marks (bits_of_field at bit width)) (λ range.
    and_then (accessed (after_put_bits blocks at bit width (residue number (2 ^ width)))) (λ after.
    and_then (field_value kind width (residue number (2 ^ width))) (λ value.
    Ok (record { value = scalar value; marks = with_write range marks; blocks = after })))))
