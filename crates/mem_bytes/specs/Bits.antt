-- Bit-fields (ISO C99, 6.7.2.1): the bits of a run of bytes are numbered from the lowest bit of the
-- lowest byte on, which is this profile's choice.
use Rattle.std.specs.Prelude.{ℕ, zero, suc, ◌+◌, ◌-◌, ◌*◌, ◌/◌, ◌%◌, ◌^◌, ◌==◌, if◌then◌else◌, List, [], ◌∷◌, length, Result, Ok, Err}
use Rattle.std.specs.List.{list_all}
use Rattle.mem_bytes.specs.declared.cell.Cell.{Cell}
use Rattle.mem_bytes.specs.declared.cell.Cell.TheVariants.{Bits}
use Rattle.mem_bytes.specs.declared.fault.Fault.{Fault}
use Rattle.mem_bytes.specs.declared.fault.Fault.TheVariants.{Unset, MixedPointer}
use Rattle.mem_bytes.specs.Coding.{is_bits, bits_of, set_of}

-- how many bytes a bit-field touches that begins at a bit of the first
abbrev pub bytes_touched : ℕ → ℕ → ℕ
bytes_touched bit width = (bit + width + 7) / 8

-- so many bits of a number, from a bit on
abbrev pub field_of : ℕ → ℕ → ℕ → ℕ
field_of bit width n = n / 2 ^ bit % 2 ^ width

-- a number with other bits there
abbrev pub with_field : ℕ → ℕ → ℕ → ℕ → ℕ
with_field bit width field n =
    n / 2 ^ (bit + width) * 2 ^ (bit + width) + field * 2 ^ bit + n % 2 ^ bit

-- so many cells of bits: the bytes of a number, and of the number of their set bits
abbrev pub bit_cells : ℕ → ℕ → ℕ → List Cell
bit_cells zero bits set = []
bit_cells (suc count) bits set =
    Bits (bits % 256) (set % 256) ∷ bit_cells count (bits / 256) (set / 256)

-- the bit-field that cells hold, or the first fault: Unset where one of its bits is unset, then
-- MixedPointer where one of the cells is a pointer's byte
abbrev pub field_in : ℕ → ℕ → List Cell → Result ℕ Fault
field_in bit width cells =
    if field_of bit width (set_of cells) == 2 ^ width - 1
    then (if list_all is_bits cells then Ok (field_of bit width (bits_of cells)) else Err MixedPointer)
    else Err Unset

-- the cells with another bit-field, all of whose bits are then set; the bits beside it stay
abbrev pub with_field_in : ℕ → ℕ → ℕ → List Cell → Result (List Cell) Fault
with_field_in bit width field cells =
    if list_all is_bits cells
    then Ok (bit_cells (length cells) (with_field bit width field (bits_of cells))
    (with_field bit width (2 ^ width - 1) (set_of cells)))
    else Err MixedPointer
