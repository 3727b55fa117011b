-- Loads of objects.
use Rattle.std.proofs.Common.{◌≡◌, ℕ, true, List, Some, Result, Ok, sym, ap}
use Rattle.cr_base.specs.declared.layout.Laid.{Laid}
use Rattle.cr_base.specs.declared.scalar.Scalar.{Scalar}
use Rattle.cx_mean.specs.Accesses.{is_field_place, field_value, CLoaded, loaded_scalar, loaded_record, loaded_bits}
use Rattle.cx_mean.specs.Marks.{Marks, Range, bits_of_bytes, bits_of_field, with_read}
use Rattle.cx_mean.specs.Operands.{CWhy, scalar, cells, accessed, sequenced_after}
use Rattle.mem_bytes.specs.declared.cell.Cell.{Cell}
use Rattle.mem_bytes.specs.declared.value.Ptr.{Ptr}
use Rattle.mem_bytes.specs.declared.value.Value.{Value}
use Rattle.mem_bytes.specs.Access.{and_then, record_part_of, part_at, value_at, record_at, field_at}
use Rattle.mem_bytes.specs.Bits.{bytes_touched}
use Rattle.mem_bytes.specs.Coding.{scalar_size}
use Rattle.mem_bytes.specs.Memory.{Blocks, live_block}
use Rattle.mem_bytes.proofs.Reached.{and_then_ok, length_part}
use Rattle.rs_mean.specs.Calls.{on_base}
use Rattle.rs_mean.specs.World.{or_cause, cause_of}
use Rattle.lift_stands.specs.Stands.{Images, PlaceBelow, StandsFor}
use Rattle.lift_stands.proofs.Loads.{load_value, read_live}
use Rattle.lift_stands_accesses.specs.Objects.{ScalarLoaded, RecordLoaded, FieldLoaded}
use Rattle.lift_stands_accesses.proofs.Results.{accessed_ok, where_true}
use Rattle.lift_stands_bits.proofs.Fields.{field_loaded}
use Rattle.lift_stands_lives.proofs.Copied.{part_found, record_holds}

module _ (images : Images) (memory others : Blocks) (at to : Ptr) (marks : Marks) (one : CLoaded) (stands : StandsFor images memory others) (place : PlaceBelow images at to) where
  pub scalar_loaded : (kind : Scalar) → loaded_scalar memory at marks kind ≡ Ok one → ScalarLoaded images others to kind one.value
  scalar_loaded kind e =
      let size = scalar_size kind in
      let last : Range → Value → Result CLoaded CWhy = λ range value. Ok (record { value = scalar value; marks = with_read range marks }) in
      let first = and_then_ok (accessed (part_at memory at size)) (λ _. and_then (sequenced_after marks (bits_of_bytes at size)) (λ range. and_then (accessed (value_at memory at kind)) (last range))) one e in
      let second = and_then_ok (sequenced_after marks (bits_of_bytes at size)) (λ range. and_then (accessed (value_at memory at kind)) (last range)) one first.2 in
      let third = and_then_ok (accessed (value_at memory at kind)) (last second.0) one second.2 in
      let there = load_value images memory others at to kind third.0 stands place (accessed_ok (value_at memory at kind) third.0 third.1) in
      let same : record { value = scalar third.0; marks = with_read second.0 marks } ≡ one = cc (third.2) in
      record {
        one = third.0;
        is = sym (ap (λ l. l.value) same);
        given = there.other;
        done = ap (λ r. or_cause cause_of (on_base true r)) there.found;
        below = there.below;
      }

  pub record_loaded : (laid : Laid) → loaded_record memory at marks laid ≡ Ok one → RecordLoaded images others at to laid one.value
  record_loaded laid e =
      let last : Range → List Cell → Result CLoaded CWhy = λ range held. Ok (record { value = cells held (Some at); marks = with_read range marks }) in
      let first = and_then_ok (accessed (part_at memory at laid.size)) (λ _. and_then (sequenced_after marks (bits_of_bytes at laid.size)) (λ range. and_then (accessed (record_at memory at laid.size laid.align)) (last range))) one e in
      let second = and_then_ok (sequenced_after marks (bits_of_bytes at laid.size)) (λ range. and_then (accessed (record_at memory at laid.size laid.align)) (last range)) one first.2 in
      let third = and_then_ok (accessed (record_at memory at laid.size laid.align)) (last second.0) one second.2 in
      let found = accessed_ok (record_at memory at laid.size laid.align) third.0 third.1 in
      let read = read_live (live_block memory at.block) (λ block. record_part_of block at.offset laid.size laid.align) third.0 found in
      let same : record { value = cells third.0 (Some at); marks = with_read second.0 marks } ≡ one = cc (third.2) in
      record {
        list = third.0;
        is = sym (ap (λ l. l.value) same);
        many = length_part read.0 at.offset laid.size third.0 (part_found read.0 at.offset laid.size laid.align third.0 read.2);
        holds = record_holds images memory others at to laid.size laid.align third.0 stands place found;
      }

  pub bits_loaded : (bit width : ℕ) (kind : Scalar) → images.in_bytes ≡ true → loaded_bits memory at bit width marks kind ≡ Ok one → FieldLoaded others to bit width kind one.value
  bits_loaded bit width kind in_bytes e =
      let count = bytes_touched bit width in
      let last : Range → Value → Result CLoaded CWhy = λ range value. Ok (record { value = scalar value; marks = with_read range marks }) in
      let in_field : Range → ℕ → Result CLoaded CWhy = λ range bits. and_then (field_value kind width bits) (last range) in
      let outer = where_true (is_field_place bit width) (and_then (accessed (part_at memory at count)) (λ _. and_then (sequenced_after marks (bits_of_field at bit width)) (λ range. and_then (accessed (field_at memory at bit width)) (in_field range)))) one e in
      let first = and_then_ok (accessed (part_at memory at count)) (λ _. and_then (sequenced_after marks (bits_of_field at bit width)) (λ range. and_then (accessed (field_at memory at bit width)) (in_field range))) one outer.1 in
      let second = and_then_ok (sequenced_after marks (bits_of_field at bit width)) (λ range. and_then (accessed (field_at memory at bit width)) (in_field range)) one first.2 in
      let third = and_then_ok (accessed (field_at memory at bit width)) (in_field second.0) one second.2 in
      let fourth = and_then_ok (field_value kind width third.0) (last second.0) one third.2 in
      let same : record { value = scalar fourth.0; marks = with_read second.0 marks } ≡ one = cc (fourth.2) in
      record {
        one = fourth.0;
        is = sym (ap (λ l. l.value) same);
        field = third.0;
        means = fourth.1;
        bytes = field_loaded images memory others at to bit width third.0 in_bytes stands place (accessed_ok (field_at memory at bit width) third.0 third.1);
      }
