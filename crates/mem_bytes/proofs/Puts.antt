-- Cells of a value written over others, one after another.
use Rattle.std.proofs.Common.{◌≡◌, ℕ, zero, suc, ◌+◌, ◌/◌, ◌%◌, ◌^◌, ◌<◌, All, List, [], ◌∷◌, ◌++◌, map, length, take, drop, slice_set, slice_index_or, refl, sym, ap, ◌∙◌, add-one, arith}
use Rattle.std.proofs.Math.Nat.{div-one}
use Rattle.std.proofs.lemmas.List.Elements.{All-weaker, All-append, All-take, All-drop}
use borrow.Rule.Slice.PartMut.{post_of}
use Rattle.cr_base.specs.declared.scalar.Scalar.{Scalar}
use Rattle.mem_bytes.specs.declared.cell.Cell.{Cell}
use Rattle.mem_bytes.specs.declared.cell.Cell.TheVariants.{PtrByte}
use Rattle.mem_bytes.specs.declared.value.Value.{Value}
use Rattle.mem_bytes.specs.Calls.{IsCell}
use Rattle.mem_bytes.specs.Coding.{bytes_of, cells_of, pointer_bytes}
use Rattle.mem_bytes.specs.Laws.{IsHeld}
use Rattle.mem_bytes.specs.Memory.{byte_cell}
use Rattle.mem_bytes.proofs.Bytes.{byte_above}
use Rattle.mem_bytes.proofs.Cells.{cell_of_held}
use Rattle.mem_bytes.proofs.Held.{held_value}

-- one more byte of a number
next_byte : (old : List Cell) (index n left : ℕ) → index < length old → left ≡ n / 256 ^ index → slice_set (map byte_cell (bytes_of index n) ++ drop index old) index (byte_cell (left % 256)) ≡ map byte_cell (bytes_of (suc index) n) ++ drop (suc index) old
next_byte [] index n left p e = absurd (omega arith)
next_byte (cell ∷ old) zero n left p e = ap (λ m. byte_cell (m % 256) ∷ old) (e ∙ div-one n)
next_byte (cell ∷ old) (suc index) n left p e =
    ap (λ cells. byte_cell (n % 256) ∷ cells) (next_byte old index (n / 256) left (omega arith) (e ∙ sym (byte_above index n)))

pub byte_written : (cells old : List Cell) (index n left : ℕ) → index < length old → cells ≡ map byte_cell (bytes_of index n) ++ drop index old → left ≡ n / 256 ^ index → slice_set cells index (byte_cell (left % 256)) ≡ map byte_cell (bytes_of (index + 1) n) ++ drop (index + 1) old
byte_written cells old index n left p e f = rw (e, add-one) (next_byte old index n left p f)

-- one more element of a list
next_of : {X : Type 0} (new old : List X) (index : ℕ) (x : X) → index < length new → index < length old → slice_index_or new index x ≡ x → slice_set (take index new ++ drop index old) index x ≡ take (suc index) new ++ drop (suc index) old
next_of [] old index x p q e = absurd (omega arith)
next_of (one ∷ new) [] index x p q e = absurd (omega arith)
next_of (one ∷ new) (other ∷ old) zero x p q e = ap (λ y. y ∷ old) (sym e)
next_of (one ∷ new) (other ∷ old) (suc index) x p q e =
    ap (λ xs. one ∷ xs) (next_of new old index x (omega arith) (omega arith) e)

pointer_byte : (of : Value) (index : ℕ) → index < 8 → slice_index_or (pointer_bytes of) index (PtrByte of index) ≡ PtrByte of index
pointer_byte of zero p = refl
pointer_byte of (suc zero) p = refl
pointer_byte of (suc (suc zero)) p = refl
pointer_byte of (suc (suc (suc zero))) p = refl
pointer_byte of (suc (suc (suc (suc zero)))) p = refl
pointer_byte of (suc (suc (suc (suc (suc zero))))) p = refl
pointer_byte of (suc (suc (suc (suc (suc (suc zero)))))) p = refl
pointer_byte of (suc (suc (suc (suc (suc (suc (suc zero))))))) p = refl
pointer_byte of (suc (suc (suc (suc (suc (suc (suc (suc index)))))))) p = absurd (omega arith)

pub pointer_written : (cells old : List Cell) (of : Value) (index : ℕ) → length old ≡ 8 → index < 8 → cells ≡ take index (pointer_bytes of) ++ drop index old → slice_set cells index (PtrByte of index) ≡ take (index + 1) (pointer_bytes of) ++ drop (index + 1) old
pointer_written cells old of index many p e =
    rw (e, add-one) (next_of (pointer_bytes of) old index (PtrByte of index) p (omega (arith, many)) (pointer_byte of index p))

-- each cell of a value is one that memory may hold
pub value_cells : (scalar : Scalar) (value : Value) → All IsCell (cells_of scalar value)
value_cells scalar value = All-weaker IsHeld IsCell cell_of_held (cells_of scalar value) (held_value scalar value)

-- the cells of a block of which a part was written
pub part_written : (len start k n : ℕ) (slice new held : List Cell) → All IsCell slice → All IsCell new → All IsCell held → All IsCell (take len (take start slice ++ (new ++ post_of start k slice) ++ drop n held))
part_written len start k n slice new held all made old =
    All-take IsCell len (take start slice ++ (new ++ post_of start k slice) ++ drop n held)
    (All-append IsCell (take start slice ++ (new ++ post_of start k slice)) (drop n held)
    (All-append IsCell (take start slice) (new ++ post_of start k slice) (All-take IsCell start slice all)
    (All-append IsCell new (post_of start k slice) made (All-drop IsCell k (drop start slice) (All-drop IsCell start slice all))))
    (All-drop IsCell n held old))
