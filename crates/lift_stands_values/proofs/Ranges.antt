-- Ranges of what is loaded, and of what stands for it; and operands under more images.
use Rattle.std.proofs.Common.{◌≡◌, ℕ, ◌<◌, Bool, true, false, ◌&&◌, nat_lt, if◌then◌else◌, pos, List, [], ◌∷◌, Option, Some, None, Ok, sym, subst, rules}
use Rattle.std.proofs.lemmas.Bool.{and_parts, ltb-true}
use Rattle.std.proofs.lemmas.Int.{ints}
use Rattle.std.specs.List.{list_all}
use Rattle.cr_base.specs.Scalar.{wrapped}
use Rattle.cr_base.specs.declared.scalar.Scalar.{Scalar}
use Rattle.cr_base.specs.declared.scalar.Scalar.TheVariants.{Truth, Whole, Object, Code}
use Rattle.cx_mean.specs.Operands.{CValue, scalar, cells, names, designates, designates_bits, missing, Frame, slot_of}
use Rattle.cx_typed_values.proofs.Ranges.{converted_in_range}
use Rattle.lift_stands.specs.Stands.{Images, ValueBelow, Extends}
use Rattle.lift_stands.proofs.Forms.{number_below, null_below, object_below, function_below}
use Rattle.lift_stands.proofs.Images.{value_stays, cells_stay}
use Rattle.lift_stands.proofs.Loads.{read_live}
use Rattle.lift_stands_values.specs.Given.{AddressBelow, GivenBelow}
use Rattle.lift_stands_values.proofs.Results.{if_ok}
use Rattle.mem_bytes.specs.Access.{scalar_part_of, block_value, value_at}
use Rattle.mem_bytes.specs.Coding.{IsScalar, IsValueOf, is_set, is_bits, is_zero, bits_of, is_pointer_of, are_bytes_of, number_value, whole_value, stored_pointer, meaning_of, value_of}
use Rattle.mem_bytes.specs.Memory.{Blocks, live_block}
use Rattle.mem_bytes.specs.declared.cell.Cell.{Cell}
use Rattle.mem_bytes.specs.declared.cell.Cell.TheVariants.{Bits, PtrByte}
use Rattle.mem_bytes.specs.declared.fault.Fault.TheVariants.{Unset, BadBool, MixedPointer}
use Rattle.mem_bytes.specs.declared.value.Ptr.{Ptr}
use Rattle.mem_bytes.specs.declared.value.Value.{Value}
use Rattle.mem_bytes.specs.declared.value.Value.TheVariants.{Whole as Number, Null, Object as Address, Code as Function}
use Rattle.mem_bytes.proofs.Reached.{and_then_ok}

-- ---- what memory holds

number_in_range : (kind : Scalar) (n : ℕ) (value : Value) → IsScalar kind → number_value kind n ≡ Ok value → IsValueOf kind value
number_in_range Truth n value is e =
    let found = if_ok (nat_lt n 2) (Ok (Number (pos n))) BadBool value e in
    let below : n < 2 = ltb-true n 2 found.0 in
    let same : Number (pos n) ≡ value = cc (found.1) in
    subst (IsValueOf Truth) same (search (rules, ints), search (rules, ints))
number_in_range (Whole width signed) n value is e =
    let same : Number (wrapped (Whole width signed) (pos n)) ≡ value = cc in
    subst (IsValueOf (Whole width signed)) same (converted_in_range (Whole width signed) (pos n) is)
number_in_range Object n value is e = cc
number_in_range Code n value is e = cc

whole_in_range : (kind : Scalar) (list : List Cell) (value : Value) → IsScalar kind → whole_value kind list ≡ Ok value → IsValueOf kind value
whole_in_range kind list value is e = number_in_range kind (bits_of list) value is (if_ok (list_all is_bits list) (number_value kind (bits_of list)) MixedPointer value e).1

pointer_of_kind : (kind : Scalar) (of : Value) → is_pointer_of kind of ≡ true → IsValueOf kind of
pointer_of_kind Object (Address at) is = tt
pointer_of_kind Object Null is = cc
pointer_of_kind Object (Number n) is = cc
pointer_of_kind Object (Function f) is = cc
pointer_of_kind Code (Function f) is = tt
pointer_of_kind Code Null is = cc
pointer_of_kind Code (Number n) is = cc
pointer_of_kind Code (Address at) is = cc
pointer_of_kind Truth of is = cc
pointer_of_kind (Whole width signed) of is = cc

stored_in_range : (kind : Scalar) (list : List Cell) (value : Value) → stored_pointer kind list ≡ Ok value → IsValueOf kind value
stored_in_range kind [] value e = cc
stored_in_range kind (Bits one set ∷ list) value e = cc
stored_in_range kind (PtrByte of index ∷ list) value e =
    let found = if_ok (is_pointer_of kind of && are_bytes_of of 0 (PtrByte of index ∷ list)) (Ok of) MixedPointer value e in
    let same : of ≡ value = cc (found.1) in
    subst (IsValueOf kind) same (pointer_of_kind kind of (and_parts (is_pointer_of kind of) (are_bytes_of of 0 (PtrByte of index ∷ list)) found.0).0)

null_or : (kind : Scalar) (list : List Cell) (value : Value) (zeros : Bool) → IsValueOf kind Null → (if zeros then Ok Null else stored_pointer kind list) ≡ Ok value → IsValueOf kind value
null_or kind list value true null e =
    let same : Null ≡ value = cc in
    subst (IsValueOf kind) same null
null_or kind list value false null e = stored_in_range kind list value e

meaning_in_range : (kind : Scalar) (list : List Cell) (value : Value) → IsScalar kind → meaning_of kind list ≡ Ok value → IsValueOf kind value
meaning_in_range Truth list value is e = whole_in_range Truth list value is e
meaning_in_range (Whole width signed) list value is e = whole_in_range (Whole width signed) list value is e
meaning_in_range Object list value is e = null_or Object list value (list_all is_zero list) tt e
meaning_in_range Code list value is e = null_or Code list value (list_all is_zero list) tt e

pub loaded_in_range : (memory : Blocks) (at : Ptr) (kind : Scalar) (value : Value) → IsScalar kind → value_at memory at kind ≡ Ok value → IsValueOf kind value
loaded_in_range memory at kind value is e =
    let read = read_live (live_block memory at.block) (λ block. block_value block at.offset kind) value e in
    let part = and_then_ok (scalar_part_of read.0 at.offset kind) (value_of kind) value read.2 in
    meaning_in_range kind part.0 value is (if_ok (list_all is_set part.0) (meaning_of kind part.0) Unset value part.2).1

-- ---- what stands for a value

pub given_in_range : (images : Images) (kind : Scalar) (value given : Value) → ValueBelow images value given → IsValueOf kind value → IsValueOf kind given
given_in_range images kind (Number number) given below is = subst (IsValueOf kind) (sym (number_below images number given below)) is
given_in_range images kind Null given below is = subst (IsValueOf kind) (sym (null_below images given below)) is
given_in_range images kind (Address at) given below is =
    let to = object_below images at given below in
    subst (IsValueOf kind) (sym to.1) (object_value kind at to.0 is)
  where
    object_value : (one : Scalar) (at to : Ptr) → IsValueOf one (Address at) → IsValueOf one (Address to)
    object_value Object at to is = is
    object_value one at to is = absurd is
given_in_range images kind (Function number) given below is =
    let image = function_below images number given below in
    subst (IsValueOf kind) (sym image.1) (code_value kind number image.0 is)
  where
    code_value : (one : Scalar) (number image : ℕ) → IsValueOf one (Function number) → IsValueOf one (Function image)
    code_value Code number image is = is
    code_value one number image is = absurd is

-- ---- more images

address_stays : (images later : Images) (slot : Option Ptr) (given : Value) → Extends images later → AddressBelow images slot given → AddressBelow later slot given
address_stays images later None given more below = absurd below
address_stays images later (Some at) given more below = value_stays images later (Address at) given more below

pub operand_stays : (images later : Images) (others : Blocks) (frame : Frame) (align : ℕ) (value : CValue) (given : Value) → Extends images later → GivenBelow images others frame align value given → GivenBelow later others frame align value given
operand_stays images later others frame align (scalar value) given more below = value_stays images later value given more below
operand_stays images later others frame align (cells list from) given more holds = record {
  at = holds.at;
  value_is = holds.value_is;
  cells = holds.cells;
  found = holds.found;
  held = holds.held;
  below = cells_stay images later list holds.cells more holds.below;
}
operand_stays images later others frame align (names number) given more below = address_stays images later (slot_of frame number) given more below
operand_stays images later others frame align (designates value) given more below = value_stays images later value given more below
operand_stays images later others frame align (designates_bits at bit width) given more below = value_stays images later (Address at) given more below
operand_stays images later others frame align missing given more below = tt
