-- How the values of scalar types stand in memory (ISO C99, 6.2.6; their sizes, the order of the
-- bytes and the bytes of the null pointer are this profile's).
use Rattle.std.specs.Prelude.{ℕ, zero, suc, ◌+◌, ◌*◌, ◌/◌, ◌%◌, Bool, true, false, ◌&&◌, ◌==◌, nat_lt, if◌then◌else◌, IsTrue, pos, List, [], ◌∷◌, map, replicate, Result, Ok, Err}
use Rattle.std.specs.List.{list_all}
use Rattle.cr_base.specs.Scalar.{is_width, IsInRange, modulus, residue, wrapped}
use Rattle.cr_base.specs.declared.scalar.Scalar.{Scalar}
use Rattle.cr_base.specs.declared.scalar.Scalar.TheVariants.{Truth, Whole, Object, Code}
use Rattle.mem_bytes.specs.declared.cell.Cell.{Cell}
use Rattle.mem_bytes.specs.declared.cell.Cell.TheVariants.{Bits, PtrByte}
use Rattle.mem_bytes.specs.declared.fault.Fault.{Fault}
use Rattle.mem_bytes.specs.declared.fault.Fault.TheVariants.{Unset, BadBool, MixedPointer}
use Rattle.mem_bytes.specs.declared.value.Value.{Value}
use Rattle.mem_bytes.specs.declared.value.Value.TheVariants.{Whole as Number, Null, Object as Pointer, Code as Function}
use Rattle.mem_bytes.specs.Memory.{byte_cell}

-- a scalar type with a width that the profile has
abbrev pub IsScalar : Scalar → Type 0
IsScalar Truth = Unit {0}
IsScalar (Whole width signed) = IsTrue (is_width width)
IsScalar Object = Unit {0}
IsScalar Code = Unit {0}

-- the size of a scalar type in bytes, which is its alignment too
abbrev pub scalar_size : Scalar → ℕ
scalar_size Truth = 1
scalar_size (Whole width signed) = width / 8
scalar_size Object = 8
scalar_size Code = 8

-- a value of a scalar type
abbrev pub IsValueOf : Scalar → Value → Type 0
IsValueOf Truth (Number n) = IsInRange Truth n
IsValueOf (Whole width signed) (Number n) = IsInRange (Whole width signed) n
IsValueOf Object Null = Unit {0}
IsValueOf Object (Pointer at) = Unit {0}
IsValueOf Code Null = Unit {0}
IsValueOf Code (Function f) = Unit {0}
IsValueOf _ _ = ⊥

-- the number with these bytes, the lowest first (little-endian)
abbrev pub number_of : List ℕ → ℕ
number_of [] = 0
number_of (lowest ∷ others) = lowest + 256 * number_of others

-- so many bytes of a number, the lowest first (little-endian)
abbrev pub bytes_of : ℕ → ℕ → List ℕ
bytes_of zero n = []
bytes_of (suc count) n = n % 256 ∷ bytes_of count (n / 256)

-- the eight bytes of a stored pointer that isn't null
abbrev pub pointer_bytes : Value → List Cell
pointer_bytes of = map (λ index. PtrByte of index) (0 ∷ 1 ∷ 2 ∷ 3 ∷ 4 ∷ 5 ∷ 6 ∷ 7 ∷ [])

-- the cells of a value: a number is two's complement (6.2.6.2), a null pointer is eight zero bytes
abbrev pub cells_of : Scalar → Value → List Cell
cells_of scalar (Number n) =
    map byte_cell (bytes_of (scalar_size scalar) (residue n (modulus scalar)))
cells_of scalar Null = replicate 8 (byte_cell 0)
cells_of scalar (Pointer at) = pointer_bytes (Pointer at)
cells_of scalar (Function f) = pointer_bytes (Function f)

-- all bits of a cell are set; those of a pointer's byte are
abbrev pub is_set : Cell → Bool
is_set (Bits value set) = set == 255
is_set (PtrByte of index) = true

-- a cell is no pointer's byte
abbrev pub is_bits : Cell → Bool
is_bits (Bits value set) = true
is_bits (PtrByte of index) = false

-- a cell is a byte of bits that are 0
abbrev pub is_zero : Cell → Bool
is_zero (Bits value set) = value == 0
is_zero (PtrByte of index) = false

-- the bits of a cell, as a number; 0 for a pointer's byte
abbrev pub bits_in : Cell → ℕ
bits_in (Bits value set) = value
bits_in (PtrByte of index) = 0

-- which bits of a cell are set, as a number; all of a pointer's byte
abbrev pub set_in : Cell → ℕ
set_in (Bits value set) = set
set_in (PtrByte of index) = 255

-- the bits of cells as one number, the lowest byte first, and which of them are set
abbrev pub bits_of : List Cell → ℕ
bits_of cells = number_of (map bits_in cells)

abbrev pub set_of : List Cell → ℕ
set_of cells = number_of (map set_in cells)

-- two pointers that aren't null are one
abbrev pub is_same_pointer : Value → Value → Bool
is_same_pointer (Pointer p) (Pointer q) = p.block == q.block && p.offset == q.offset
is_same_pointer (Function f) (Function g) = f == g
is_same_pointer _ _ = false

-- a pointer that isn't null is of a scalar type
abbrev pub is_pointer_of : Scalar → Value → Bool
is_pointer_of Object (Pointer at) = true
is_pointer_of Code (Function f) = true
is_pointer_of _ _ = false

-- a cell is the byte of a pointer with an index
abbrev pub is_byte_of : Value → ℕ → Cell → Bool
is_byte_of of index (PtrByte stored place) = is_same_pointer stored of && place == index
is_byte_of of index (Bits value set) = false

-- cells are the bytes of a pointer from an index on
abbrev pub are_bytes_of : Value → ℕ → List Cell → Bool
are_bytes_of of index [] = true
are_bytes_of of index (cell ∷ cells) = is_byte_of of index cell && are_bytes_of of (suc index) cells

-- what a byte of a `_Bool` means (6.2.5p2)
abbrev pub truth_value : ℕ → Result Value Fault
truth_value n = if nat_lt n 2 then Ok (Number (pos n)) else Err BadBool

-- what the bytes of a pointer mean that aren't zero bytes: they are all bytes of one pointer
abbrev pub stored_pointer : Scalar → List Cell → Result Value Fault
stored_pointer scalar [] = Err MixedPointer
stored_pointer scalar (Bits value set ∷ cells) = Err MixedPointer
stored_pointer scalar (PtrByte of index ∷ cells) =
    if is_pointer_of scalar of && are_bytes_of of 0 (PtrByte of index ∷ cells)
    then Ok of
    else Err MixedPointer

-- what cells mean as a pointer
abbrev pub pointer_value : Scalar → List Cell → Result Value Fault
pointer_value scalar cells = if list_all is_zero cells then Ok Null else stored_pointer scalar cells

-- what a number means as a value of an integer type, `_Bool` too
abbrev pub number_value : Scalar → ℕ → Result Value Fault
number_value Truth n = truth_value n
number_value (Whole width signed) n = Ok (Number (wrapped (Whole width signed) (pos n)))
number_value Object n = Err MixedPointer
number_value Code n = Err MixedPointer

-- what cells mean as a value of an integer type: none of them is a pointer's byte
abbrev pub whole_value : Scalar → List Cell → Result Value Fault
whole_value scalar cells =
    if list_all is_bits cells then number_value scalar (bits_of cells) else Err MixedPointer

-- what the cells of a scalar mean, all of whose bits are set
abbrev pub meaning_of : Scalar → List Cell → Result Value Fault
meaning_of Truth cells = whole_value Truth cells
meaning_of (Whole width signed) cells = whole_value (Whole width signed) cells
meaning_of Object cells = pointer_value Object cells
meaning_of Code cells = pointer_value Code cells

-- what the cells of a scalar mean, or the first fault: Unset, then BadBool, then MixedPointer
abbrev pub value_of : Scalar → List Cell → Result Value Fault
value_of scalar cells = if list_all is_set cells then meaning_of scalar cells else Err Unset
