-- Worked examples of operations on pointers, and of structures in one access. The values are those that gcc on x86-64 shows,
-- where it can.
use Rattle.std.proofs.Common.{◌≡◌, ℕ, pos, negsuc, true, false, [], ◌∷◌, map, Some, None, Ok, Err, refl}
use Rattle.mem_bytes.specs.declared.cell.Cell.TheVariants.{Bits}
use Rattle.mem_bytes.specs.declared.fault.Fault.TheVariants.{Dead, Outside, Misaligned}
use Rattle.mem_bytes.specs.declared.pointer.PointerFault.TheVariants.{ToDead, LeavesObject, NotWithinOne, NoPointer}
use Rattle.mem_bytes.specs.declared.value.Ptr.{Ptr}
use Rattle.mem_bytes.specs.declared.value.Value.{Value}
use Rattle.mem_bytes.specs.declared.value.Value.TheVariants.{Whole, Null, Object, Code}
use Rattle.mem_bytes.specs.Access.{part_at, record_at, after_put_record}
use Rattle.mem_bytes.specs.Memory.{Block, Blocks, byte_cell}
use Rattle.mem_bytes.specs.Pointers.{usable, moved, distance, difference, equality}

-- a dead block, and two live ones of 8 and 4 bytes
abbrev eight : Block
eight = record { align = 4; cells = map byte_cell (1 ∷ 2 ∷ 3 ∷ 4 ∷ 5 ∷ 6 ∷ 7 ∷ 8 ∷ []) }

abbrev four : Block
four = record { align = 4; cells = map byte_cell (9 ∷ 10 ∷ 11 ∷ 12 ∷ []) }

abbrev memory : Blocks
memory = None ∷ Some eight ∷ Some four ∷ []

abbrev to : ℕ → ℕ → Value
to block offset = Object (record { block = block; offset = offset })

abbrev number : Value
number = Whole (pos 1)

-- ---- pointers that may be used (6.2.4p2)

dead : usable memory (to 0 0) ≡ Err ToDead
dead = refl

live_past_end : usable memory (to 1 8) ≡ Ok (to 1 8)
live_past_end = refl

null_usable : usable memory Null ≡ Ok Null
null_usable = refl

code_usable : usable memory (Code 5) ≡ Ok (Code 5)
code_usable = refl

number_unusable : usable memory number ≡ Err NoPointer
number_unusable = refl

-- ---- moving (6.5.6p8)

moved_up : moved memory (to 1 2) (pos 4) ≡ Ok (to 1 6)
moved_up = refl

moved_down : moved memory (to 1 6) (negsuc 5) ≡ Ok (to 1 0)
moved_down = refl

moved_to_end : moved memory (to 1 0) (pos 8) ≡ Ok (to 1 8)
moved_to_end = refl

moved_past_end : moved memory (to 1 0) (pos 9) ≡ Err LeavesObject
moved_past_end = refl

moved_below : moved memory (to 1 2) (negsuc 2) ≡ Err LeavesObject
moved_below = refl

moved_dead : moved memory (to 0 0) (pos 0) ≡ Err ToDead
moved_dead = refl

moved_null : moved memory Null (pos 0) ≡ Err LeavesObject
moved_null = refl

moved_code : moved memory (Code 5) (pos 0) ≡ Err NoPointer
moved_code = refl

moved_number : moved memory number (pos 0) ≡ Err NoPointer
moved_number = refl

-- ---- differences and orders (6.5.6p9, 6.5.8p5)

behind : distance memory (to 1 6) (to 1 2) ≡ Ok (pos 4)
behind = refl

before : distance memory (to 1 2) (to 1 8) ≡ Ok (negsuc 5)
before = refl

two_objects : distance memory (to 1 0) (to 2 0) ≡ Err NotWithinOne
two_objects = refl

first_dead : distance memory (to 0 0) Null ≡ Err ToDead
first_dead = refl

second_dead : distance memory (to 1 0) (to 0 0) ≡ Err ToDead
second_dead = refl

null_and_dead : distance memory Null (to 0 0) ≡ Err ToDead
null_and_dead = refl

object_and_null : distance memory (to 1 0) Null ≡ Err NotWithinOne
object_and_null = refl

two_nulls : distance memory Null Null ≡ Err NotWithinOne
two_nulls = refl

two_codes : distance memory (Code 1) (Code 1) ≡ Err NoPointer
two_codes = refl

in_ints : difference memory 4 (to 1 8) (to 1 0) ≡ Ok (pos 2)
in_ints = refl

in_ints_back : difference memory 4 (to 1 0) (to 1 8) ≡ Ok (negsuc 1)
in_ints_back = refl

half_an_int : difference memory 4 (to 1 6) (to 1 0) ≡ Err NotWithinOne
half_an_int = refl

-- ---- equality (6.5.9p6)

one_place : equality memory (to 1 2) (to 1 2) ≡ Ok true
one_place = refl

two_places : equality memory (to 1 2) (to 1 3) ≡ Ok false
two_places = refl

one_end : equality memory (to 1 8) (to 1 8) ≡ Ok true
one_end = refl

other_objects : equality memory (to 1 0) (to 2 0) ≡ Ok false
other_objects = refl

end_and_start : equality memory (to 1 8) (to 2 0) ≡ Err NotWithinOne
end_and_start = refl

start_and_end : equality memory (to 1 0) (to 2 4) ≡ Err NotWithinOne
start_and_end = refl

end_and_null : equality memory (to 1 8) Null ≡ Ok false
end_and_null = refl

nulls : equality memory Null Null ≡ Ok true
nulls = refl

codes_equal : equality memory (Code 5) (Code 5) ≡ Ok true
codes_equal = refl

codes_differ : equality memory (Code 5) (Code 6) ≡ Ok false
codes_differ = refl

code_and_null : equality memory (Code 5) Null ≡ Ok false
code_and_null = refl

dead_and_itself : equality memory (to 0 0) (to 0 0) ≡ Err ToDead
dead_and_itself = refl

live_and_dead : equality memory (to 1 0) (to 0 0) ≡ Err ToDead
live_and_dead = refl

null_and_number : equality memory Null number ≡ Err NoPointer
null_and_number = refl

-- ---- structures in one access

abbrev at : ℕ → ℕ → Ptr
at block offset = record { block = block; offset = offset }

structure : record_at memory (at 1 4) 4 4 ≡ Ok (map byte_cell (5 ∷ 6 ∷ 7 ∷ 8 ∷ []))
structure = refl

structure_dead : record_at memory (at 0 9) 4 4 ≡ Err Dead
structure_dead = refl

structure_outside : record_at memory (at 1 6) 4 4 ≡ Err Outside
structure_outside = refl

structure_misaligned : record_at memory (at 1 2) 4 4 ≡ Err Misaligned
structure_misaligned = refl

block_misaligned : record_at memory (at 1 0) 8 8 ≡ Err Misaligned
block_misaligned = refl

-- padding is copied as it is
stored : after_put_record memory (at 2 2) 1 (byte_cell 7 ∷ Bits 0 0 ∷ []) ≡ Ok (None ∷ Some eight ∷ Some (record { align = 4; cells = byte_cell 9 ∷ byte_cell 10 ∷ byte_cell 7 ∷ Bits 0 0 ∷ [] }) ∷ [])
stored = refl

stored_outside : after_put_record memory (at 2 3) 1 (byte_cell 7 ∷ Bits 0 0 ∷ []) ≡ Err Outside
stored_outside = refl

stored_misaligned : after_put_record memory (at 2 1) 2 (byte_cell 7 ∷ Bits 0 0 ∷ []) ≡ Err Misaligned
stored_misaligned = refl

part_to_end : part_at memory (at 2 4) 0 ≡ Ok []
part_to_end = refl
