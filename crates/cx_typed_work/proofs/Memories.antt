-- Writes of typed cells keep a memory typed, and its live blocks as large as they were.
use Rattle.std.proofs.Common.{◌≡◌, ◌≢◌, ⊎_elim, ℕ, zero, suc, ◌+◌, ◌/◌, ◌%◌, ◌<◌, ◌≤◌, nat_lt, Bool, true, false, All, List, [], ◌∷◌, ◌++◌, map, length, take, drop, replicate, slice_set, Option, Some, None, IfSome, IsSome, Ok, refl, sym, ap, subst, ◌∙◌, arith}
use Rattle.std.proofs.lemmas.Bool.{and_parts, cases_eq, ltb-true}
use Rattle.std.proofs.lemmas.List.Elements.{All-append, All-take, All-drop}
use Rattle.std.specs.List.{list_all}
use Rattle.cr_base.specs.Scalar.{modulus, residue}
use Rattle.cr_base.specs.declared.scalar.Scalar.{Scalar}
use Rattle.cx_core.specs.Trees.{CProgram}
use Rattle.mem_bytes.proofs.Reached.{size_of-with_part}
use Rattle.mem_bytes.proofs.Slots.{live-set_same, live-set_other, live_within}
use Rattle.mem_bytes.specs.Calls.{IsPointer}
use Rattle.mem_bytes.specs.Coding.{scalar_size, bytes_of, pointer_bytes, cells_of}
use Rattle.mem_bytes.specs.declared.cell.Cell.{Cell}
use Rattle.mem_bytes.specs.declared.cell.Cell.TheVariants.{Bits, PtrByte}
use Rattle.mem_bytes.specs.declared.value.Ptr.{Ptr}
use Rattle.mem_bytes.specs.declared.value.Value.{Value}
use Rattle.mem_bytes.specs.declared.value.Value.TheVariants.{Whole, Null, Object, Code}
use Rattle.mem_bytes.specs.Laws.{Writes}
use Rattle.mem_bytes.specs.Memory.{Block, Blocks, live_block, size_of, byte_cell, unset_cell, with_part}
use Rattle.cx_typed_values.specs.Values.{AreObjects, most_bytes}
use Rattle.cx_typed_work.specs.Scenes.{IsLeading, IsTypedCell, IsTypedMemory, IsSameShape, AreSameShapes}

-- ---- lists of cells

pub typed_none : (program : CProgram) → All (IsTypedCell program) []
typed_none program k d p = absurd (omega arith)

pub typed_more : (program : CProgram) (cell : Cell) (cells : List Cell) → IsTypedCell program cell → All (IsTypedCell program) cells → All (IsTypedCell program) (cell ∷ cells)
typed_more program cell cells first rest =
    elim [ zero ↦ λ d p. first | suc k ↦ λ d p. rest k d (omega arith) ]

pub typed_replicate : (program : CProgram) (count : ℕ) (cell : Cell) → IsTypedCell program cell → All (IsTypedCell program) (replicate count cell)
typed_replicate program zero cell is = typed_none program
typed_replicate program (suc count) cell is = typed_more program cell (replicate count cell) is (typed_replicate program count cell is)

typed_bytes : (program : CProgram) (count n : ℕ) → All (IsTypedCell program) (map byte_cell (bytes_of count n))
typed_bytes program zero n = typed_none program
typed_bytes program (suc count) n = typed_more program (byte_cell (n % 256)) (map byte_cell (bytes_of count (n / 256))) tt (typed_bytes program count (n / 256))

typed_indexes : (program : CProgram) (of : Value) (indexes : List ℕ) → IsPointer of → IsLeading program of → list_all (λ index. nat_lt index 8) indexes ≡ true → All (IsTypedCell program) (map (λ index. PtrByte of index) indexes)
typed_indexes program of [] p near few = typed_none program
typed_indexes program of (index ∷ indexes) p near few =
    let both = and_parts (nat_lt index 8) (list_all (λ i. nat_lt i 8) indexes) few in
    typed_more program (PtrByte of index) (map (λ i. PtrByte of i) indexes) ((p, ltb-true index 8 both.0), near) (typed_indexes program of indexes p near both.1)

typed_pointer : (program : CProgram) (of : Value) → IsPointer of → IsLeading program of → All (IsTypedCell program) (pointer_bytes of)
typed_pointer program of p near = typed_indexes program of (0 ∷ 1 ∷ 2 ∷ 3 ∷ 4 ∷ 5 ∷ 6 ∷ 7 ∷ []) p near refl

-- the cells of a value that leads no further than an object reaches
pub typed_value : (program : CProgram) (kind : Scalar) (value : Value) → IsLeading program value → All (IsTypedCell program) (cells_of kind value)
typed_value program kind (Whole n) near = typed_bytes program (scalar_size kind) (residue n (modulus kind))
typed_value program kind Null near = typed_replicate program 8 (byte_cell 0) tt
typed_value program kind (Object at) near = typed_pointer program (Object at) tt near
typed_value program kind (Code f) near = typed_pointer program (Code f) tt near

-- ---- memories

typed_part : (program : CProgram) (block : Block) (offset : ℕ) (cells : List Cell) → All (IsTypedCell program) block.cells → All (IsTypedCell program) cells → All (IsTypedCell program) (with_part block offset cells).cells
typed_part program block offset cells old new =
    All-append (IsTypedCell program) (take offset block.cells ++ cells) (drop (offset + length cells) block.cells)
    (All-append (IsTypedCell program) (take offset block.cells) cells (All-take (IsTypedCell program) offset block.cells old) new)
    (All-drop (IsTypedCell program) (offset + length cells) block.cells old)

-- the block that was written is live, with its new cells
written_block : (memory after : Blocks) (at : Ptr) (count : ℕ) (writes : Writes memory at count after) (number : ℕ) → at.block ≡ number
    → live_block after number ≡ Some (with_part writes.block at.offset writes.cells)
written_block memory after at count writes number same =
    ap (live_block after) (sym same) ∙ ap (λ m. live_block m at.block) writes.made
    ∙ live-set_same memory at.block _ (live_within memory at.block writes.block writes.live)

-- and the others are as they were
other_block : (memory after : Blocks) (at : Ptr) (count : ℕ) (writes : Writes memory at count after) (number : ℕ) → at.block ≢ number
    → live_block after number ≡ live_block memory number
other_block memory after at count writes number away =
    ap (λ m. live_block m number) writes.made ∙ live-set_other memory at.block number _ away

written_size : (memory after : Blocks) (at : Ptr) (count : ℕ) (writes : Writes memory at count after)
    → size_of (with_part writes.block at.offset writes.cells) ≡ size_of writes.block
written_size memory after at count writes =
    size_of-with_part writes.block at.offset writes.cells (subst (λ n. at.offset + n ≤ size_of writes.block) (sym writes.many) writes.within)

pub written_typed : (program : CProgram) (memory after : Blocks) (at : Ptr) (count : ℕ) (writes : Writes memory at count after) → IsTypedMemory program memory → All (IsTypedCell program) writes.cells → IsTypedMemory program after
written_typed program memory after at count writes is new = record {
  objects = record {
    sizes = λ number block live. ⊎_elim
        (λ (same : at.block ≡ number).
        let made : with_part writes.block at.offset writes.cells ≡ block = cc (written_block memory after at count writes number same, live) in
        subst (λ (b : Block). size_of b ≤ most_bytes) made
        (subst (λ n. n ≤ most_bytes) (sym (written_size memory after at count writes)) (is.objects.sizes at.block writes.block writes.live)))
        (λ (away : at.block ≢ number). is.objects.sizes number block (sym (other_block memory after at count writes number away) ∙ live))
        (cases_eq at.block number);
  };
  cells = λ number block live. ⊎_elim
      (λ (same : at.block ≡ number).
      let made : with_part writes.block at.offset writes.cells ≡ block = cc (written_block memory after at count writes number same, live) in
      subst (λ (b : Block). All (IsTypedCell program) b.cells) made (typed_part program writes.block at.offset writes.cells (is.cells at.block writes.block writes.live) new))
      (λ (away : at.block ≢ number). is.cells number block (sym (other_block memory after at count writes number away) ∙ live))
      (cases_eq at.block number);
}

same_shape : (found : Option Block) → IsSameShape found found
same_shape None = record { size = tt; align = tt; lives = λ some. some; lived = λ some. some }
same_shape (Some block) = record { size = refl; align = refl; lives = λ some. some; lived = λ some. some }

shape_with : (block new : Block) → size_of block ≡ size_of new → block.align ≡ new.align → IsSameShape (Some block) (Some new)
shape_with block new size align = record { size = size; align = align; lives = λ some. some; lived = λ some. some }

pub shapes_stay : (memory : Blocks) → AreSameShapes memory memory
shapes_stay memory = record { each = λ number. same_shape (live_block memory number) }

pub written_shapes : (memory after : Blocks) (at : Ptr) (count : ℕ) → Writes memory at count after → AreSameShapes memory after
written_shapes memory after at count writes = record {
  each = λ number. ⊎_elim
      (λ (same : at.block ≡ number).
      let was : live_block memory number ≡ Some writes.block = ap (live_block memory) (sym same) ∙ writes.live in
      subst (λ before. IsSameShape before (live_block after number)) (sym was)
      (subst (IsSameShape (Some writes.block)) (sym (written_block memory after at count writes number same))
      (shape_with writes.block (with_part writes.block at.offset writes.cells) (sym (written_size memory after at count writes)) refl)))
      (λ (away : at.block ≢ number).
      subst (IsSameShape (live_block memory number)) (sym (other_block memory after at count writes number away)) (same_shape (live_block memory number)))
      (cases_eq at.block number);
}
