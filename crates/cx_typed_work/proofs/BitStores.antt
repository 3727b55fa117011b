-- Stores in bit-fields leave a typed memory (6.5.16.1, 6.7.2.1p9).
use Rattle.std.proofs.Common.{◌≡◌, ℕ, zero, suc, ◌/◌, ◌%◌, ◌^◌, ◌<◌, Bool, IsTrue, ℤ, All, List, length, slice_set, Option, Some, None, Result, Ok, Err, refl, sym, ap, subst, ◌∙◌}
use Rattle.std.proofs.lemmas.Nat.{pow_pos}
use Rattle.cr_base.proofs.Residues.{residue_below}
use Rattle.cr_base.specs.Scalar.{residue}
use Rattle.cr_base.specs.declared.scalar.Scalar.{Scalar}
use Rattle.cr_base.specs.declared.scalar.Scalar.TheVariants.{Truth, Whole, Object, Code}
use Rattle.cx_core.specs.Trees.{CTy, CProgram}
use Rattle.cx_mean.specs.Accesses.{is_field_place, field_value, stored_bits}
use Rattle.cx_mean.specs.Marks.{Marks, bits_of_field, with_write}
use Rattle.cx_mean.specs.Operands.{CWhy, accessed, sequenced_after, CValue, scalar}
use Rattle.cx_mean.specs.Values.{value_of_kind, number_in}
use Rattle.mem_bytes.proofs.Bytes.{length-bit_cells}
use Rattle.mem_bytes.proofs.Reached.{and_then_ok, changed, part_ok, length_part}
use Rattle.mem_bytes.proofs.Written.{field_written}
use Rattle.mem_bytes.specs.Access.{and_then, part_of, block_with_field, part_at, after_put_bits}
use Rattle.mem_bytes.specs.Bits.{bytes_touched, bit_cells, with_field_in}
use Rattle.mem_bytes.specs.Coding.{IsValueOf}
use Rattle.mem_bytes.specs.declared.cell.Cell.{Cell}
use Rattle.mem_bytes.specs.declared.cell.Cell.TheVariants.{Bits}
use Rattle.mem_bytes.specs.declared.value.Ptr.{Ptr}
use Rattle.mem_bytes.specs.declared.value.Value.{Value}
use Rattle.mem_bytes.specs.declared.value.Value.TheVariants.{Whole as Number, Null, Object as Pointer, Code as Function}
use Rattle.mem_bytes.specs.Laws.{Writes}
use Rattle.mem_bytes.specs.Memory.{Block, Blocks, with_part}
use Rattle.cx_typed_values.specs.Outcomes.{Comes}
use Rattle.cx_typed_work.proofs.Accesses.{sequenced_comes}
use Rattle.cx_typed_work.proofs.Bits.{field_means, in_field_place}
use Rattle.cx_typed_work.proofs.Fields.{FitsKind, IsField}
use Rattle.cx_typed_work.proofs.Memories.{typed_none, typed_more, written_typed, written_shapes}
use Rattle.cx_typed_work.proofs.Outcomes.{comes_and, comes_accessed}
use Rattle.cx_typed_work.proofs.Stores.{IsStoredOf, IsStorable, IsNewValue, new_scalar}
use Rattle.cx_typed_work.specs.Operands.{IsScalarIn}
use Rattle.cx_typed_work.specs.Scenes.{IsTypedCell, IsTypedMemory}

bit_cells_typed : (program : CProgram) (count bits set : ℕ) → All (IsTypedCell program) (bit_cells count bits set)
bit_cells_typed program zero bits set = typed_none program
bit_cells_typed program (suc count) bits set = typed_more program (Bits (bits % 256) (set % 256)) (bit_cells count (bits / 256) (set / 256)) tt (bit_cells_typed program count (bits / 256) (set / 256))

-- the write of a bit-field is one of cells of bits
bits_writes : (program : CProgram) (memory after : Blocks) (at : Ptr) (bit width field : ℕ) → after_put_bits memory at bit width field ≡ Ok after
    → (writes : Writes memory at (bytes_touched bit width) after) × All (IsTypedCell program) writes.cells
bits_writes program memory after at bit width field e =
    let change = changed memory after at.block (λ block. block_with_field block at.offset bit width field) e in
    let parts = and_then_ok (part_of change.block at.offset (bytes_touched bit width)) (λ cells. and_then (with_field_in bit width field cells) (λ put. Ok (with_part change.block at.offset put))) change.new change.stepped in
    let fields = and_then_ok (with_field_in bit width field parts.0) (λ put. Ok (with_part change.block at.offset put)) change.new parts.2 in
    let written = field_written bit width field parts.0 fields.0 fields.1 in
    let new : change.new ≡ with_part change.block at.offset fields.0 = cc (fields.2) in (
      record {
        block = change.block;
        cells = fields.0;
        live = change.live;
        many = ap length written.made ∙ length-bit_cells (length parts.0) _ _ ∙ length_part change.block at.offset (bytes_touched bit width) parts.0 parts.1;
        within = (part_ok change.block at.offset (bytes_touched bit width) parts.0 parts.1).0;
        made = change.made ∙ ap (λ (block : Block). slice_set memory at.block (Some block)) new;
      },
      subst (All (IsTypedCell program)) (sym written.made) (bit_cells_typed program (length parts.0) _ _),
    )

number_comes : (kind : Scalar) (width : ℕ) (value : Value) → FitsKind kind width → IsValueOf kind value → Comes (λ (_ : ℤ). Unit {0}) (number_in value)
number_comes Truth width (Number number) fits is = tt
number_comes (Whole size signed) width (Number number) fits is = tt
number_comes Truth width Null fits is = absurd is
number_comes Truth width (Pointer at) fits is = absurd is
number_comes Truth width (Function number) fits is = absurd is
number_comes (Whole size signed) width Null fits is = absurd is
number_comes (Whole size signed) width (Pointer at) fits is = absurd is
number_comes (Whole size signed) width (Function number) fits is = absurd is
number_comes Object width value fits is = absurd fits
number_comes Code width value fits is = absurd fits

-- a store in a bit-field
pub bits_stored : (program : CProgram) (type : CTy) (blocks : Blocks) (at : Ptr) (bit width : ℕ) (marks : Marks) (new : CValue) (one : IsField program.types type width) → IsTrue (is_field_place bit width)
    → IsTypedMemory program blocks → IsStorable program type new → Comes (IsStoredOf program type blocks) (stored_bits blocks at bit width marks new one.kind)
bits_stored program type blocks at bit width marks new one is memory fits =
    in_field_place (IsStoredOf program type blocks) bit width _ is
    (comes_and (IsNewValue program one.kind) (IsStoredOf program type blocks) (value_of_kind one.kind new) _ (new_scalar program type one.kind new one.kind_is fits) (λ value good.
    comes_and (λ (_ : ℤ). Unit {0}) (IsStoredOf program type blocks) (number_in value) _ (number_comes one.kind width value one.fits good.of_kind) (λ number _.
    comes_and (λ _. Unit {0}) (IsStoredOf program type blocks) (accessed (part_at blocks at (bytes_touched bit width))) _ (comes_accessed (λ _. Unit {0}) _ (λ _ _. tt)) (λ _ _.
    comes_and (λ _. Unit {0}) (IsStoredOf program type blocks) (sequenced_after marks (bits_of_field at bit width)) _ (sequenced_comes marks _) (λ range _.
    comes_and (λ after. after_put_bits blocks at bit width (residue number (2 ^ width)) ≡ Ok after) (IsStoredOf program type blocks) (accessed (after_put_bits blocks at bit width (residue number (2 ^ width)))) _
    (comes_accessed (λ after. after_put_bits blocks at bit width (residue number (2 ^ width)) ≡ Ok after) _ (λ after e. e)) (λ after made.
    let writes = bits_writes program blocks after at bit width (residue number (2 ^ width)) made in
    comes_and (IsScalarIn program type) (IsStoredOf program type blocks) (field_value one.kind width (residue number (2 ^ width))) _
    (field_means program type width (residue number (2 ^ width)) one (residue_below number (2 ^ width) (pow_pos width))) (λ given scalar_is.
    record {
      given = scalar_is;
      memory = written_typed program blocks after at (bytes_touched bit width) writes.0 memory writes.1;
      shapes = written_shapes blocks after at (bytes_touched bit width) writes.0;
    })))))))
