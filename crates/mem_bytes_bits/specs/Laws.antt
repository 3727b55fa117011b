-- A bit-field beside the bytes that it touches (ISO C99, 6.2.6.1, 6.7.2.1p9).
use Rattle.std.specs.Prelude.{◌≡◌, ℕ, ◌<◌, ◌^◌, false, pos, List, [], ◌∷◌, map, length, All, Some, Result, Ok, slice_index_or}
use Rattle.cr_base.specs.declared.scalar.Scalar.{Scalar}
use Rattle.cr_base.specs.declared.scalar.Scalar.TheVariants.{Whole}
use Rattle.mem_bytes.specs.Access.{and_then, part_at, value_at, after_put, field_at, after_put_bits}
use Rattle.mem_bytes.specs.Bits.{bytes_touched, field_of, with_field}
use Rattle.mem_bytes.specs.Coding.{bytes_of, number_of}
use Rattle.mem_bytes.specs.Laws.{behind}
use Rattle.mem_bytes.specs.Memory.{Block, Blocks, byte_cell, live_block}
use Rattle.mem_bytes.specs.declared.fault.Fault.{Fault}
use Rattle.mem_bytes.specs.declared.value.Ptr.{Ptr}
use Rattle.mem_bytes.specs.declared.value.Value.TheVariants.{Whole as Number}

-- a byte, as an unsigned integer of eight bits
abbrev pub byte_scalar : Scalar
byte_scalar = Whole 8 false

-- these bytes stand at a place, and all their bits are set; the block there may hold an object of alignment 1
pub record HoldsBytes (memory : Blocks) (at : Ptr) (count : ℕ) (bytes : List ℕ) : Type 0 where
  pub block : Block
  pub live : live_block memory at.block ≡ Some block
  pub aligned : 0 < block.align
  pub are_bytes : All (λ byte. byte < 256) bytes
  pub found : part_at memory at count ≡ Ok (map byte_cell bytes)

-- bytes are stored one after the other
abbrev pub after_put_bytes : Blocks → Ptr → List ℕ → Result Blocks Fault
after_put_bytes memory at [] = Ok memory
after_put_bytes memory at (byte ∷ others) =
    and_then (after_put memory at byte_scalar (Number (pos byte))) (λ next. after_put_bytes next (behind at 1) others)

-- bytes, as those of a number in which a bit-field has another value
abbrev pub with_field_bytes : (bit width field : ℕ) → List ℕ → List ℕ
with_field_bytes bit width field bytes = bytes_of (length bytes) (with_field bit width field (number_of bytes))

-- where the bytes that a bit-field touches are held
pub record BitsGoByBytes : Type 0 where
  -- each of them is loaded by itself
  pub byte : (memory : Blocks) (at : Ptr) (count place : ℕ) (bytes : List ℕ) → HoldsBytes memory at count bytes → place < count →
      value_at memory (behind at place) byte_scalar ≡ Ok (Number (pos (slice_index_or bytes place 0)))
  -- the bit-field is so many bits of their number
  pub load : (memory : Blocks) (at : Ptr) (bit width field : ℕ) (bytes : List ℕ) → HoldsBytes memory at (bytes_touched bit width) bytes →
      field_at memory at bit width ≡ Ok field → field ≡ field_of bit width (number_of bytes)
  -- and a store in it is the stores of the bytes of the number with the field, one after the other
  pub put : (memory after : Blocks) (at : Ptr) (bit width field : ℕ) (bytes : List ℕ) → HoldsBytes memory at (bytes_touched bit width) bytes →
      field < 2 ^ width → after_put_bits memory at bit width field ≡ Ok after → after_put_bytes memory at (with_field_bytes bit width field bytes) ≡ Ok after
