-- The layout of records in the manner of the System V ABI for x86-64 (ISO C99, 6.7.2.1, leaves it to the
-- implementation). A member stands at the next multiple of its alignment; a record has the greatest alignment of its
-- members, and its size is rounded up to it; a union's members stand at 0. Bit-fields run from low bits to high. One of
-- a declared type of s bits starts at the next free bit, or at the next multiple of s where it would cross one; a width
-- of 0 moves to the next multiple of s. An unnamed bit-field doesn't raise the record's alignment. `repr(C)` of Rust
-- has the same rule without bit-fields, where `align(N)` raises the alignment to N.
use Rattle.std.specs.Prelude.{ℕ, zero, suc, ◌+◌, ◌*◌, ◌/◌, ◌%◌, ◌≤◌, ◌<◌, Bool, true, false, nat_le, if◌then◌else◌, List, [], ◌∷◌, Option, None, Some, max}
use Rattle.std.specs.Int.{next_multiple_of}
use Rattle.cr_base.specs.declared.layout.Piece.{Piece}
use Rattle.cr_base.specs.declared.layout.Piece.TheVariants.{Plain, Bits}
use Rattle.cr_base.specs.declared.layout.Spot.{Spot}
use Rattle.cr_base.specs.declared.layout.Laid.{Laid}
use Rattle.cr_base.specs.declared.layout.Front.{Front}

-- the most bytes that an object of the profile has
abbrev pub most_bytes : ℕ
most_bytes = 16777216

-- how many bits a member takes
abbrev pub width_of : Piece → ℕ
width_of (Plain size align) = 8 * size
width_of (Bits size width is_named) = width

-- the alignment that a member asks of its record, in bytes
abbrev pub align_of : Piece → ℕ
align_of (Plain size align) = align
align_of (Bits size width true) = size
align_of (Bits size width false) = 1

-- the first bit of a bit-field of a declared type of `unit` bits, where the bits from `free` on are free
abbrev pub bits_start : ℕ → ℕ → ℕ → ℕ
bits_start free unit zero = next_multiple_of free unit
bits_start free unit (suc w) = if nat_le (free % unit + suc w) unit then free else next_multiple_of free unit

-- the first bit of a member of a struct, where the bits from `free` on are free
abbrev pub struct_start : ℕ → Piece → ℕ
struct_start free (Plain size align) = next_multiple_of free (8 * align)
struct_start free (Bits size width is_named) = bits_start free (8 * size) width

-- the first bit of a member behind the members in front of it
abbrev pub start : Front → Piece → ℕ
start front piece = if front.is_union then 0 else struct_start front.bits piece

-- what the members in front have taken, and then this one
abbrev pub after : Front → Piece → Front
after front piece = record {
  is_union = front.is_union;
  bits = max front.bits (start front piece + width_of piece);
  align = max front.align (align_of piece);
}

-- before the first member
abbrev pub no_front : Bool → Front
no_front is_union = record { is_union = is_union; bits = 0; align = 1 }

-- what some members in front and then all of these have taken
abbrev pub after_all : Front → List Piece → Front
after_all front [] = front
after_all front (piece ∷ others) = after_all (after front piece) others

-- the same with the alignment raised to `align` bytes: `align(N)` of Rust
abbrev pub raised : ℕ → Front → Front
raised align front = record front { align = max align front.align }

-- where a member stands behind the members in front of it
abbrev pub spot : Front → Piece → Spot
spot front (Plain size align) = record { byte = start front (Plain size align) / 8; bit = 0; width = 0 }
spot front (Bits size width is_named) = record {
  byte = start front (Bits size width is_named) / 8;
  bit = start front (Bits size width is_named) % 8;
  width = width;
}

-- where each of these members stands behind some members in front of them all
abbrev pub spots_behind : Front → List Piece → List Spot
spots_behind front [] = []
spots_behind front (piece ∷ others) = spot front piece ∷ spots_behind (after front piece) others

-- the size and the alignment of a record of which the members took so much
abbrev pub laid : Front → Laid
laid front = record { size = next_multiple_of front.bits (8 * front.align) / 8; align = front.align }

-- where the members of a record stand, in their order
abbrev pub spots_of : Bool → List Piece → List Spot
spots_of is_union pieces = spots_behind (no_front is_union) pieces

-- the size and the alignment of a record, whatever its size is
abbrev pub laid_of : Bool → List Piece → Laid
laid_of is_union pieces = laid (after_all (no_front is_union) pieces)

-- the size and the alignment of a record of the profile: none where it is too large
abbrev pub laid_record : Bool → List Piece → Option Laid
laid_record is_union pieces = if nat_le (laid_of is_union pieces).size most_bytes then Some (laid_of is_union pieces) else None

-- a member of an object that isn't too large: a bit-field isn't wider than its declared type
abbrev pub IsPiece : Piece → Type 0
IsPiece (Plain size align) = (size ≤ most_bytes) × (0 < align) × (align ≤ most_bytes)
IsPiece (Bits size width is_named) = (0 < size) × (size ≤ 8) × (width ≤ 8 * size)

-- what the members in front can have taken where the record isn't too large
abbrev pub IsFront : Front → Type 0
IsFront front = (front.bits ≤ 8 * most_bytes) × (0 < front.align) × (front.align ≤ most_bytes)
