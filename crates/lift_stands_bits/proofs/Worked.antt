-- Worked bit-fields of C, and the bytes of the crate that stand for them.
use Rattle.std.proofs.Common.{◌≡◌, true, List, [], ◌∷◌, Some, None, Ok, Err, refl, arith}
use Rattle.std.specs.Int.{bit_at}
use Rattle.std.proofs.lemmas.Nat.Bits.{bit_at-zero}
use Rattle.mem_bytes.specs.declared.cell.Cell.{Cell}
use Rattle.mem_bytes.specs.declared.cell.Cell.TheVariants.{Bits, PtrByte}
use Rattle.mem_bytes.specs.declared.fault.Fault.TheVariants.{Unset, MixedPointer}
use Rattle.mem_bytes.specs.declared.value.Ptr.{Ptr}
use Rattle.mem_bytes.specs.declared.value.Value.TheVariants.{Object}
use Rattle.mem_bytes.specs.Access.{value_at, field_at, after_put_bits}
use Rattle.mem_bytes.specs.Bits.{field_of}
use Rattle.mem_bytes.specs.Memory.{Blocks, byte_cell, unset_cell}
use Rattle.mem_bytes_bits.specs.Laws.{after_put_bytes, with_field_bytes, byte_scalar}
use Rattle.lift_stands.specs.Stands.{Images, CellBelow, CellsBelow}
use Rattle.lift_stands_bits.proofs.Alike.{cells_below_bytes}
use Rattle.lift_stands_bits.proofs.Numbers.{SetAlike, puts_alike}

abbrev images : Images
images = record { blocks = 0 ∷ []; functions = λ number. None; in_bytes = true }

abbrev memory_of : List Cell → Blocks
memory_of cells = Some (record { align = 4; cells = cells }) ∷ []

abbrev start : Ptr
start = record { block = 0; offset = 0 }

-- ---- stores

-- `s.f = 5` in three bits from bit 2 on: no bit of C's byte was set, all of the crate's were 1
put_in_c : after_put_bits (memory_of (unset_cell ∷ [])) start 2 3 5 ≡ Ok (memory_of (Bits 0x14 0x1C ∷ []))
put_in_c = refl

bytes_in_crate : with_field_bytes 2 3 5 (0xFF ∷ []) ≡ 0xF7 ∷ []
bytes_in_crate = refl

put_in_crate : after_put_bytes (memory_of (byte_cell 0xFF ∷ [])) start (0xF7 ∷ []) ≡ Ok (memory_of (byte_cell 0xF7 ∷ []))
put_in_crate = refl

-- nothing that is set in C differs after it
nothing_set : SetAlike 0 0 0xFF
nothing_set k e =
    let none : bit_at 0 k ≡ 0 = bit_at-zero k in
    cc

put_below : CellsBelow images (Bits 0x14 0x1C ∷ []) (byte_cell 0xF7 ∷ [])
put_below = cells_below_bytes images 1 0x14 0x1C 0xF7 (puts_alike 2 3 5 0 0 0xFF (omega arith) nothing_set)

-- bytes of another number aren't beside it: bit 2 is set in C
not_below_another : CellBelow images (Bits 0x14 0x1C) (byte_cell 0xF3) → ⊥
not_below_another below =
    let bit = below.each 2 (omega arith) refl in
    let same : 0 ≡ 1 = bit.1 in
    omega (arith, same)

-- ---- loads

loaded_in_c : field_at (memory_of (Bits 0x14 0x1C ∷ [])) start 2 3 ≡ Ok 5
loaded_in_c = refl

loaded_in_crate : field_of 2 3 0xF7 ≡ 5
loaded_in_crate = refl

-- a field that stands in two bytes
two_bytes_in_c : field_at (memory_of (Bits 0x80 0xE0 ∷ Bits 0x01 0x03 ∷ [])) start 5 5 ≡ Ok 12
two_bytes_in_c = refl

two_bytes_in_crate : field_of 5 5 0xFD9F ≡ 12
two_bytes_in_crate = refl

-- a bit beside it that is unset is no part of it, and one of its own is Unset
unset_in_c : field_at (memory_of (Bits 0x14 0x1C ∷ [])) start 2 4 ≡ Err Unset
unset_in_c = refl

-- ---- what the bytes have to be

-- a cell of the crate that isn't all set: its byte has no value, and C's field has one
no_byte : value_at (memory_of (Bits 0x14 0x1C ∷ [])) start byte_scalar ≡ Err Unset
no_byte = refl

-- a byte of a pointer in a union with the field: C's field has none either
pointer_in_c : field_at (memory_of (PtrByte (Object start) 0 ∷ [])) start 2 3 ≡ Err MixedPointer
pointer_in_c = refl

no_put_in_c : after_put_bits (memory_of (PtrByte (Object start) 0 ∷ [])) start 2 3 5 ≡ Err MixedPointer
no_put_in_c = refl
