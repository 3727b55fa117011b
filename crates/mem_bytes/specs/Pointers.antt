-- Operations on pointers to objects (ISO C99, 6.5.6, 6.5.8 and 6.5.9). What is wrong with one is told here for both
-- languages; each maps it to a rule or a cause of its own.
use Rattle.std.specs.Prelude.{ℕ, Bool, true, ◌&&◌, ◌||◌, not, ◌==◌, nat_le, if◌then◌else◌, ℤ, pos, negsuc, ◌+ℤ◌, ◌-ℤ◌, int_div, int_rem, Option, Some, None, Result, Ok, Err}
use Rattle.std.specs.Ordering.{int_eq}
use Rattle.mem_bytes.specs.declared.pointer.PointerFault.{PointerFault}
use Rattle.mem_bytes.specs.declared.pointer.PointerFault.TheVariants.{ToDead, LeavesObject, NotWithinOne, NoPointer}
use Rattle.mem_bytes.specs.declared.value.Ptr.{Ptr}
use Rattle.mem_bytes.specs.declared.value.Value.{Value}
use Rattle.mem_bytes.specs.declared.value.Value.TheVariants.{Whole, Null, Object, Code}
use Rattle.mem_bytes.specs.Access.{and_then}
use Rattle.mem_bytes.specs.Coding.{is_same_pointer}
use Rattle.mem_bytes.specs.Memory.{Block, Blocks, live_block, size_of}

-- the size of a live object
abbrev pub live_size : Option Block → Result ℕ PointerFault
live_size None = Err ToDead
live_size (Some block) = Ok (size_of block)

-- the size of the object of a pointer, in bytes
abbrev pub object_size : Blocks → Ptr → Result ℕ PointerFault
object_size blocks at = live_size (live_block blocks at.block)

-- a pointer that isn't to a dead object; a null pointer and one to a function aren't
abbrev pub usable : Blocks → Value → Result Value PointerFault
usable blocks (Object at) = and_then (object_size blocks at) (λ _. Ok (Object at))
usable blocks Null = Ok Null
usable blocks (Code number) = Ok (Code number)
usable blocks (Whole number) = Err NoPointer

-- ---- moving (6.5.6p8)

-- an offset of a block of a size, or the one past its end
abbrev pub place_inside : (block size : ℕ) → ℤ → Result Ptr PointerFault
place_inside block size (pos offset) =
    if nat_le offset size then Ok (record { block = block; offset = offset }) else Err LeavesObject
place_inside block size (negsuc n) = Err LeavesObject

-- a place moved by so many bytes
abbrev pub place_moved : Blocks → Ptr → ℤ → Result Ptr PointerFault
place_moved blocks at bytes =
    and_then (object_size blocks at) (λ size. place_inside at.block size (pos at.offset +ℤ bytes))

-- a pointer moved by so many bytes: inside its object, or one past its end
abbrev pub moved : Blocks → Value → ℤ → Result Value PointerFault
moved blocks (Object at) bytes = and_then (place_moved blocks at bytes) (λ new. Ok (Object new))
moved blocks Null bytes = Err LeavesObject
moved blocks (Code number) bytes = Err NoPointer
moved blocks (Whole number) bytes = Err NoPointer

-- ---- differences and orders (6.5.6p9, 6.5.8p5)

abbrev pub distance_in : Ptr → Ptr → Result ℤ PointerFault
distance_in first second =
    if first.block == second.block then Ok (pos first.offset -ℤ pos second.offset) else Err NotWithinOne

-- by how many bytes the first of two pointers within one object stands behind the second; by its sign they are ordered
abbrev pub distance : Blocks → Value → Value → Result ℤ PointerFault
distance blocks (Object first) (Object second) =
    and_then (object_size blocks first) (λ _.
    and_then (object_size blocks second) (λ _. distance_in first second))
distance blocks (Object first) Null = and_then (object_size blocks first) (λ _. Err NotWithinOne)
distance blocks Null (Object second) = and_then (object_size blocks second) (λ _. Err NotWithinOne)
distance blocks Null Null = Err NotWithinOne
distance blocks first second = Err NoPointer

abbrev pub in_elements : ℕ → ℤ → Result ℤ PointerFault
in_elements size bytes =
    if int_eq (int_rem bytes (pos size)) (pos 0) then Ok (int_div bytes (pos size)) else Err NotWithinOne

-- the same in elements of so many bytes
abbrev pub difference : Blocks → (size : ℕ) → Value → Value → Result ℤ PointerFault
difference blocks size first second = and_then (distance blocks first second) (in_elements size)

-- ---- equality (6.5.9p6)

-- two pointers to objects are to one place
abbrev pub is_same_place : Ptr → Ptr → Bool
is_same_place first second = first.block == second.block && first.offset == second.offset

-- two pointers are equal, as values, where null pointers are
abbrev pub are_equal : Value → Value → Bool
are_equal Null Null = true
are_equal first second = is_same_pointer first second

-- one past the end of an object
abbrev is_past : ℕ → Ptr → Bool
is_past size at = at.offset == size

-- two places, in objects of these sizes, are one
abbrev pub same_places : Ptr → ℕ → Ptr → ℕ → Result Bool PointerFault
same_places first size second other =
    if not (first.block == second.block) && (is_past size first || is_past other second)
    then Err NotWithinOne
    else Ok (is_same_place first second)

-- two pointers are equal; it isn't told of one past the end of an object and one to another object
abbrev pub equality : Blocks → Value → Value → Result Bool PointerFault
equality blocks (Object first) (Object second) =
    and_then (object_size blocks first) (λ size.
    and_then (object_size blocks second) (λ other. same_places first size second other))
equality blocks first second =
    and_then (usable blocks first) (λ one.
    and_then (usable blocks second) (λ other. Ok (are_equal one other)))
