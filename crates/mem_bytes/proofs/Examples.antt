-- Worked examples of the definitions. The values are those that gcc on x86-64 shows, where it can.
use Rattle.std.proofs.Common.{◌≡◌, ℕ, pos, negsuc, true, false, List, [], ◌∷◌, map, Some, None, Ok, Err, refl}
use Rattle.cr_base.specs.declared.scalar.Scalar.TheVariants.{Truth, Whole, Object, Code}
use Rattle.mem_bytes.specs.declared.cell.Cell.{Cell}
use Rattle.mem_bytes.specs.declared.cell.Cell.TheVariants.{Bits, PtrByte}
use Rattle.mem_bytes.specs.declared.fault.Fault.TheVariants.{Dead, Outside, Misaligned, Unset, BadBool, MixedPointer}
use Rattle.mem_bytes.specs.declared.fault.StoreFault.TheVariants.{Full}
use Rattle.mem_bytes.specs.declared.value.Ptr.{Ptr}
use Rattle.mem_bytes.specs.declared.value.Value.TheVariants.{Whole as Number, Code as Function}
use Rattle.mem_bytes.specs.Access.{value_at, field_at, after_put_bits, after_copy, after_kill}
use Rattle.mem_bytes.specs.Coding.{cells_of, value_of, pointer_bytes}
use Rattle.mem_bytes.specs.Counted.{after_alloc}
use Rattle.mem_bytes.specs.Memory.{Blocks, byte_cell, new_block}

abbrev bytes : List ℕ → List Cell
bytes values = map byte_cell values

-- ---- values and cells

-- `unsigned long x = 0x0102030405060708`
long_bytes : cells_of (Whole 64 false) (Number (pos 0x0102030405060708)) ≡ bytes (8 ∷ 7 ∷ 6 ∷ 5 ∷ 4 ∷ 3 ∷ 2 ∷ 1 ∷ [])
long_bytes = refl

-- `int x = -2`
int_bytes : cells_of (Whole 32 true) (Number (negsuc 1)) ≡ bytes (254 ∷ 255 ∷ 255 ∷ 255 ∷ [])
int_bytes = refl

-- the bytes ff 80 as a `short`
short_value : value_of (Whole 16 true) (bytes (0xff ∷ 0x80 ∷ [])) ≡ Ok (Number (negsuc 32512))
short_value = refl

-- an unset bit is found before a pointer's byte, and a `_Bool` is 0 or 1
unset_first : value_of (Whole 16 true) (PtrByte (Function 3) 0 ∷ Bits 7 254 ∷ []) ≡ Err Unset
unset_first = refl

pointer_in_number : value_of (Whole 16 true) (PtrByte (Function 3) 0 ∷ byte_cell 7 ∷ []) ≡ Err MixedPointer
pointer_in_number = refl

two_is_no_truth : value_of Truth (bytes (2 ∷ [])) ≡ Err BadBool
two_is_no_truth = refl

-- a pointer to a function isn't one to an object, and other bytes than its own are none
function_pointer : value_of Code (pointer_bytes (Function 3)) ≡ Ok (Function 3)
function_pointer = refl

function_as_object : value_of Object (pointer_bytes (Function 3)) ≡ Err MixedPointer
function_as_object = refl

number_as_pointer : value_of Object (bytes (1 ∷ 0 ∷ 0 ∷ 0 ∷ 0 ∷ 0 ∷ 0 ∷ 0 ∷ [])) ≡ Err MixedPointer
number_as_pointer = refl

-- ---- accesses

abbrev at : ℕ → ℕ → Ptr
at block offset = record { block = block; offset = offset }

-- one dead block, and one of four bytes with an alignment of 2
abbrev memory : Blocks
memory = None ∷ Some (record { align = 2; cells = bytes (1 ∷ 2 ∷ 3 ∷ 4 ∷ []) }) ∷ []

dead_first : value_at memory (at 0 9) (Whole 32 true) ≡ Err Dead
dead_first = refl

never_made : value_at memory (at 2 0) (Whole 8 true) ≡ Err Dead
never_made = refl

outside_before_misaligned : value_at memory (at 1 3) (Whole 16 true) ≡ Err Outside
outside_before_misaligned = refl

offset_misaligned : value_at memory (at 1 1) (Whole 16 true) ≡ Err Misaligned
offset_misaligned = refl

block_misaligned : value_at memory (at 1 0) (Whole 32 true) ≡ Err Misaligned
block_misaligned = refl

aligned : value_at memory (at 1 2) (Whole 16 false) ≡ Ok (Number (pos 0x0403))
aligned = refl

-- ---- copies that overlap

abbrev eight : List ℕ → Blocks
eight values = Some (record { align = 1; cells = bytes values }) ∷ []

copied_up : after_copy (eight (1 ∷ 2 ∷ 3 ∷ 4 ∷ 5 ∷ 6 ∷ 7 ∷ 8 ∷ [])) (at 0 0) (at 0 2) 5 ≡ Ok (eight (1 ∷ 2 ∷ 1 ∷ 2 ∷ 3 ∷ 4 ∷ 5 ∷ 8 ∷ []))
copied_up = refl

copied_down : after_copy (eight (1 ∷ 2 ∷ 3 ∷ 4 ∷ 5 ∷ 6 ∷ 7 ∷ 8 ∷ [])) (at 0 2) (at 0 0) 5 ≡ Ok (eight (3 ∷ 4 ∷ 5 ∷ 6 ∷ 7 ∷ 6 ∷ 7 ∷ 8 ∷ []))
copied_down = refl

nothing_copied : after_copy memory (at 0 0) (at 7 0) 0 ≡ Ok memory
nothing_copied = refl

-- ---- bit-fields

-- `struct { unsigned a : 3, b : 5, c : 9, d : 15; }` with 5, 19, 300 and 20000, and then 77 in `c`
fields_put : after_put_bits (eight (157 ∷ 44 ∷ 65 ∷ 156 ∷ [])) (at 0 1) 0 9 77 ≡ Ok (eight (157 ∷ 77 ∷ 64 ∷ 156 ∷ []))
fields_put = refl

field_beside : field_at (eight (157 ∷ 77 ∷ 64 ∷ 156 ∷ [])) (at 0 2) 1 15 ≡ Ok 20000
field_beside = refl

field_in_byte : field_at (eight (157 ∷ 77 ∷ 64 ∷ 156 ∷ [])) (at 0 0) 3 5 ≡ Ok 19
field_in_byte = refl

-- the bits beside a field stay unset
field_of_new : after_put_bits (Some (new_block 1 1) ∷ []) (at 0 0) 3 2 3 ≡ Ok (Some (record { align = 1; cells = Bits 24 24 ∷ [] }) ∷ [])
field_of_new = refl

-- ---- numbers and limits

number_after_kill : after_alloc None (None ∷ []) 1 1 ≡ Ok (None ∷ Some (new_block 1 1) ∷ [])
number_after_kill = refl

killed_twice : after_kill (None ∷ []) 0 ≡ Err Dead
killed_twice = refl

full : after_alloc (Some (record { bytes = 6; blocks = 2 })) memory 3 1 ≡ Err (Full 3 2)
full = refl

last_fits : after_alloc (Some (record { bytes = 6; blocks = 2 })) memory 2 1 ≡ Ok (None ∷ Some (record { align = 2; cells = bytes (1 ∷ 2 ∷ 3 ∷ 4 ∷ []) }) ∷ Some (new_block 2 1) ∷ [])
last_fits = refl

blocks_used_up : after_alloc (Some (record { bytes = 6; blocks = 1 })) memory 0 1 ≡ Err (Full 0 2)
blocks_used_up = refl
