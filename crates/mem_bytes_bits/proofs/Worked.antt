-- Worked bit-fields, byte by byte: 0x1234 with 0xAB in the eight bits from bit 4 on is 0x1AB4.
use Rattle.std.proofs.Common.{◌≡◌, refl, ℤ, pos, List, [], ◌∷◌, map, Some, Ok}
use Rattle.mem_bytes.specs.Access.{after_put_bits, field_at, value_at}
use Rattle.mem_bytes.specs.Laws.{behind}
use Rattle.mem_bytes.specs.Memory.{Blocks, byte_cell}
use Rattle.mem_bytes.specs.declared.value.Ptr.{Ptr}
use Rattle.mem_bytes.specs.declared.value.Value.TheVariants.{Whole as Number}
use Rattle.mem_bytes_bits.specs.Laws.{after_put_bytes, byte_scalar, with_field_bytes}

abbrev two_bytes : Blocks
two_bytes = Some (record { cells = map byte_cell (0x34 ∷ 0x12 ∷ []); align = 4 }) ∷ []

abbrev first_byte : Ptr
first_byte = record { block = 0; offset = 0 }

field_in_two_bytes : with_field_bytes 4 8 0xAB (0x34 ∷ 0x12 ∷ []) ≡ 0xB4 ∷ 0x1A ∷ []
field_in_two_bytes = refl

two_bytes_are_put : after_put_bits two_bytes first_byte 4 8 0xAB ≡ after_put_bytes two_bytes first_byte (0xB4 ∷ 0x1A ∷ [])
two_bytes_are_put = refl

field_of_two_bytes : field_at two_bytes first_byte 4 8 ≡ Ok 0x23
field_of_two_bytes = refl

second_byte_is_read : value_at two_bytes (behind first_byte 1) byte_scalar ≡ Ok (Number (pos 0x12))
second_byte_is_read = refl

-- a field of one bit leaves the other bits of its byte
one_bit : with_field_bytes 3 1 1 (0x41 ∷ []) ≡ 0x49 ∷ []
one_bit = refl
