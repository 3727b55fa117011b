-- What is loaded of a typed memory is typed.
use Rattle.std.proofs.Common.{◌≡◌, ◌⊎◌, inl, inr, ℕ, zero, suc, ◌+◌, ◌<◌, ◌≤◌, Bool, true, false, ◌&&◌, nat_lt, nat_le, if◌then◌else◌, ℤ, pos, All, List, [], ◌∷◌, length, take, drop, Option, Some, None, Result, Ok, Err, refl, sym, ap, subst, ◌∙◌, arith, rules}
use Rattle.std.proofs.lemmas.Bool.{and_parts, ltb-true, leb-true}
use Rattle.std.proofs.lemmas.Int.{ints}
use Rattle.std.proofs.lemmas.List.Elements.{All-take, All-drop}
use Rattle.std.specs.List.{list_all}
use Rattle.cr_base.specs.Scalar.{IsInRange, wrapped, converted}
use Rattle.cr_base.specs.declared.scalar.Scalar.{Scalar}
use Rattle.cr_base.specs.declared.scalar.Scalar.TheVariants.{Truth, Whole, Object, Code}
use Rattle.cx_core.specs.Trees.{CProgram}
use Rattle.cx_mean.proofs.KeptNodes.{IfGiven, given_and, given_where}
use Rattle.mem_bytes.proofs.Reached.{length_part}
use Rattle.mem_bytes.specs.Access.{and_then, part_of, is_aligned, scalar_part_of, block_value, is_record_aligned, record_part_of, live_read, value_at, record_at}
use Rattle.mem_bytes.specs.Coding.{IsScalar, IsValueOf, scalar_size, is_set, is_bits, is_zero, bits_of, is_pointer_of, are_bytes_of, truth_value, number_value, whole_value, stored_pointer, pointer_value, meaning_of, value_of}
use Rattle.mem_bytes.specs.declared.cell.Cell.{Cell}
use Rattle.mem_bytes.specs.declared.cell.Cell.TheVariants.{Bits, PtrByte}
use Rattle.mem_bytes.specs.declared.fault.Fault.{Fault}
use Rattle.mem_bytes.specs.declared.fault.Fault.TheVariants.{Outside, Misaligned, Unset, BadBool, MixedPointer}
use Rattle.mem_bytes.specs.declared.value.Ptr.{Ptr}
use Rattle.mem_bytes.specs.declared.value.Value.{Value}
use Rattle.mem_bytes.specs.declared.value.Value.TheVariants.{Whole as Number, Null, Object as Pointer, Code as Function}
use Rattle.mem_bytes.specs.Memory.{Block, Blocks, live_block, size_of}
use Rattle.cx_typed_values.proofs.Ranges.{converted_in_range}
use Rattle.cx_typed_work.specs.Scenes.{IsLeading, IsTypedCell, IsTypedMemory}

-- ---- what cells mean

-- a value of a kind, as a store takes it
pub record IsKindValue (program : CProgram) (kind : Scalar) (value : Value) : Type 0 where
  pub of_kind : IsValueOf kind value
  pub leads : IsLeading program value

truth_typed : (program : CProgram) (n : ℕ) → IfGiven (IsKindValue program Truth) (truth_value n)
truth_typed program n =
    given_where (IsKindValue program Truth) (nat_lt n 2) (Ok (Number (pos n))) BadBool
    (λ is. let below = ltb-true n 2 is in record { of_kind = (search (rules, ints), search (rules, ints)); leads = tt })

number_typed : (program : CProgram) (width : ℕ) (signed : Bool) (n : ℕ) → IsScalar (Whole width signed) → IsKindValue program (Whole width signed) (Number (wrapped (Whole width signed) (pos n)))
number_typed program width signed n is = record { of_kind = converted_in_range (Whole width signed) (pos n) is; leads = tt }

whole_typed : (program : CProgram) (kind : Scalar) (cells : List Cell) → IfGiven (IsKindValue program kind) (number_value kind (bits_of cells)) → IfGiven (IsKindValue program kind) (whole_value kind cells)
whole_typed program kind cells is = given_where (IsKindValue program kind) (list_all is_bits cells) (number_value kind (bits_of cells)) MixedPointer (λ _. is)

pointer_of_kind : (kind : Scalar) (of : Value) → is_pointer_of kind of ≡ true → IsValueOf kind of
pointer_of_kind Object (Pointer at) is = tt
pointer_of_kind Object Null is = cc
pointer_of_kind Object (Number n) is = cc
pointer_of_kind Object (Function f) is = cc
pointer_of_kind Code (Function f) is = tt
pointer_of_kind Code Null is = cc
pointer_of_kind Code (Number n) is = cc
pointer_of_kind Code (Pointer at) is = cc
pointer_of_kind Truth of is = cc
pointer_of_kind (Whole width signed) of is = cc

stored_typed : (program : CProgram) (kind : Scalar) (cells : List Cell) → All (IsTypedCell program) cells → IfGiven (IsKindValue program kind) (stored_pointer kind cells)
stored_typed program kind [] are = tt
stored_typed program kind (Bits value set ∷ cells) are = tt
stored_typed program kind (PtrByte of index ∷ cells) are =
    given_where (IsKindValue program kind) (is_pointer_of kind of && are_bytes_of of 0 (PtrByte of index ∷ cells)) (Ok of) MixedPointer
    (λ is. record { of_kind = pointer_of_kind kind of (and_parts (is_pointer_of kind of) _ is).0; leads = (are 0 (PtrByte of index) (omega arith)).1 })

given_either : {A E : Type 0} (P : A → Type 0) (test : Bool) (one other : Result A E) → IfGiven P one → IfGiven P other → IfGiven P (if test then one else other)
given_either P true one other is or_is = is
given_either P false one other is or_is = or_is

object_typed : (program : CProgram) (cells : List Cell) → All (IsTypedCell program) cells → IfGiven (IsKindValue program Object) (pointer_value Object cells)
object_typed program cells are = given_either (IsKindValue program Object) (list_all is_zero cells) (Ok Null) (stored_pointer Object cells) (record { of_kind = tt; leads = tt }) (stored_typed program Object cells are)

code_typed : (program : CProgram) (cells : List Cell) → All (IsTypedCell program) cells → IfGiven (IsKindValue program Code) (pointer_value Code cells)
code_typed program cells are = given_either (IsKindValue program Code) (list_all is_zero cells) (Ok Null) (stored_pointer Code cells) (record { of_kind = tt; leads = tt }) (stored_typed program Code cells are)

meaning_typed : (program : CProgram) (kind : Scalar) (cells : List Cell) → IsScalar kind → All (IsTypedCell program) cells → IfGiven (IsKindValue program kind) (meaning_of kind cells)
meaning_typed program Truth cells is are = whole_typed program Truth cells (truth_typed program (bits_of cells))
meaning_typed program (Whole width signed) cells is are = whole_typed program (Whole width signed) cells (number_typed program width signed (bits_of cells) is)
meaning_typed program Object cells is are = object_typed program cells are
meaning_typed program Code cells is are = code_typed program cells are

pub cells_mean : (program : CProgram) (kind : Scalar) (cells : List Cell) → IsScalar kind → All (IsTypedCell program) cells → IfGiven (IsKindValue program kind) (value_of kind cells)
cells_mean program kind cells is are = given_where (IsKindValue program kind) (list_all is_set cells) (meaning_of kind cells) Unset (λ _. meaning_typed program kind cells is are)

-- ---- what a memory holds

pub part_typed : (program : CProgram) (block : Block) (offset count : ℕ) → All (IsTypedCell program) block.cells → IfGiven (All (IsTypedCell program)) (part_of block offset count)
part_typed program block offset count are =
    given_where (All (IsTypedCell program)) (nat_le (offset + count) (size_of block)) (Ok (take count (drop offset block.cells))) Outside
    (λ _. All-take (IsTypedCell program) count (drop offset block.cells) (All-drop (IsTypedCell program) offset block.cells are))

scalar_part_typed : (program : CProgram) (block : Block) (offset : ℕ) (kind : Scalar) → All (IsTypedCell program) block.cells → IfGiven (All (IsTypedCell program)) (scalar_part_of block offset kind)
scalar_part_typed program block offset kind are =
    given_and (All (IsTypedCell program)) (All (IsTypedCell program)) (part_of block offset (scalar_size kind)) _ (part_typed program block offset (scalar_size kind) are) (λ found is.
    given_where (All (IsTypedCell program)) (is_aligned kind block offset) (Ok found) Misaligned (λ _. is))

slot_value : (program : CProgram) (kind : Scalar) (slot : Option Block) (offset : ℕ) → IsScalar kind → ((block : Block) → slot ≡ Some block → All (IsTypedCell program) block.cells)
    → IfGiven (IsKindValue program kind) (live_read slot (λ block. block_value block offset kind))
slot_value program kind None offset is all = tt
slot_value program kind (Some block) offset is all =
    given_and (All (IsTypedCell program)) (IsKindValue program kind) (scalar_part_of block offset kind) _ (scalar_part_typed program block offset kind (all block refl)) (λ found are. cells_mean program kind found is are)

-- a scalar that a typed memory holds is one of its kind
pub value_typed : (program : CProgram) (blocks : Blocks) (at : Ptr) (kind : Scalar) → IsScalar kind → IsTypedMemory program blocks → IfGiven (IsKindValue program kind) (value_at blocks at kind)
value_typed program blocks at kind is memory = slot_value program kind (live_block blocks at.block) at.offset is (λ block live. memory.cells at.block block live)

-- the cells of a structure or union, as many as it has bytes
pub record AreRecordCells (program : CProgram) (size : ℕ) (held : List Cell) : Type 0 where
  pub all : length held ≡ size
  pub typed : All (IsTypedCell program) held

slot_record : (program : CProgram) (slot : Option Block) (offset size align : ℕ) → ((block : Block) → slot ≡ Some block → All (IsTypedCell program) block.cells)
    → IfGiven (AreRecordCells program size) (live_read slot (λ block. record_part_of block offset size align))
slot_record program None offset size align all = tt
slot_record program (Some block) offset size align all =
    given_and (AreRecordCells program size) (AreRecordCells program size) (part_of block offset size) _ (found_record (part_of block offset size) refl (part_typed program block offset size (all block refl))) (λ found is.
    given_where (AreRecordCells program size) (is_record_aligned align block offset) (Ok found) Misaligned (λ _. is))
  where
    found_record : (found : Result (List Cell) Fault) → part_of block offset size ≡ found → IfGiven (All (IsTypedCell program)) found → IfGiven (AreRecordCells program size) found
    found_record (Ok cells) e are = record { all = length_part block offset size cells e; typed = are }
    found_record (Err fault) e are = tt

pub record_typed : (program : CProgram) (blocks : Blocks) (at : Ptr) (size align : ℕ) → IsTypedMemory program blocks → IfGiven (AreRecordCells program size) (record_at blocks at size align)
record_typed program blocks at size align memory = slot_record program (live_block blocks at.block) at.offset size align (λ block live. memory.cells at.block block live)
