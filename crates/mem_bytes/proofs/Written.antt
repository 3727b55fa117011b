-- What the calls that change cells write, and what stays.
use Rattle.std.proofs.Common.{◌≡◌, ◌≢◌, ℕ, ◌+◌, ◌-◌, ◌^◌, ◌%◌, ◌<◌, ◌≤◌, Bool, true, false, cond, nat_le, ◌==◌, ◌&&◌, List, [], ◌∷◌, length, take, drop, replicate, slice_set, Option, Some, None, Result, Ok, Err, refl, sym, ap, ◌∙◌, ◌⊎◌, ⊎_elim, inl, inr, arith}
use Rattle.std.proofs.lemmas.Bool.{cond-true, cond-false, cases_eq, ne_eqb}
use Rattle.std.proofs.lemmas.List.{length-replicate}
use Rattle.std.specs.List.{list_all}
use Rattle.cr_base.specs.declared.scalar.Scalar.{Scalar}
use Rattle.mem_bytes.specs.declared.cell.Cell.{Cell}
use Rattle.mem_bytes.specs.declared.fault.Fault.{Fault}
use Rattle.mem_bytes.specs.declared.fault.Fault.TheVariants.{Misaligned, MixedPointer}
use Rattle.mem_bytes.specs.declared.value.Ptr.{Ptr}
use Rattle.mem_bytes.specs.declared.value.Value.{Value}
use Rattle.mem_bytes.specs.Access.{and_then, part_of, part_at, is_aligned, scalar_part_of, is_record_aligned, record_part_of, live_read, live_change, record_at, after_put_record, value_at, after_put, field_at, after_put_bits, after_fill, after_put_cell, block_with_copy, copied_between, after_copy}
use Rattle.mem_bytes.specs.Bits.{bytes_touched, with_field, bit_cells, field_in, with_field_in}
use Rattle.mem_bytes.specs.Calls.{IsFieldPlace}
use Rattle.mem_bytes.specs.Coding.{IsScalar, IsValueOf, is_bits, scalar_size, cells_of, value_of, bits_of, set_of}
use Rattle.mem_bytes.specs.Laws.{Writes, AreApart}
use Rattle.mem_bytes.specs.Memory.{Block, Blocks, live_block, size_of, byte_cell, with_part}
use Rattle.mem_bytes.proofs.Bytes.{length-bit_cells}
use Rattle.mem_bytes.proofs.Coded.{length-cells_of, value_of-cells_of}
use Rattle.mem_bytes.proofs.Reached.{changed, and_then_ok, part_ok, part_inside, length_part, scalar_part_ok, size_of-with_part, written_part, part_of-with_part_beside}
use Rattle.mem_bytes.proofs.Windows.{field_in-with_field}
use Rattle.mem_bytes.proofs.Slots.{live-set_same, live-set_other, live_within}

-- ---- what each call writes

pub put_writes : (memory after : Blocks) (at : Ptr) (scalar : Scalar) (value : Value) → IsScalar scalar → IsValueOf scalar value → after_put memory at scalar value ≡ Ok after → Writes memory at (scalar_size scalar) after
put_writes memory after at scalar value p q e =
    let cells = cells_of scalar value in
    let step : Block → Result Block Fault = λ block. and_then (scalar_part_of block at.offset scalar) (λ _. Ok (with_part block at.offset cells)) in
    let change = changed memory after at.block step e in
    let parts = and_then_ok (scalar_part_of change.block at.offset scalar) (λ _. Ok (with_part change.block at.offset cells)) change.new change.stepped in
    let reached = scalar_part_ok change.block at.offset scalar parts.0 parts.1 in
    let inside = part_ok change.block at.offset (scalar_size scalar) parts.0 reached.0 in
    let new : change.new ≡ with_part change.block at.offset cells = cc (parts.2) in
    record {
      block = change.block;
      cells = cells;
      live = change.live;
      many = length-cells_of scalar value p q;
      within = inside.0;
      made = change.made ∙ ap (λ block. slice_set memory at.block (Some block)) new;
    }

-- a bit-field's cells are cells of bits, before and after
pub record FieldWritten (bit width field : ℕ) (cells new : List Cell) : Type 0 where
  pub bits : list_all is_bits cells ≡ true
  pub made : new ≡ bit_cells (length cells) (with_field bit width field (bits_of cells)) (with_field bit width (2 ^ width - 1) (set_of cells))

field_from : (bit width field : ℕ) (cells new : List Cell) (bits : Bool) → list_all is_bits cells ≡ bits → cond bits (Ok (bit_cells (length cells) (with_field bit width field (bits_of cells)) (with_field bit width (2 ^ width - 1) (set_of cells)))) (Err MixedPointer) ≡ Ok new → FieldWritten bit width field cells new
field_from bit width field cells new true p e = record { bits = p; made = cc }
field_from bit width field cells new false p e = cc

pub field_written : (bit width field : ℕ) (cells new : List Cell) → with_field_in bit width field cells ≡ Ok new → FieldWritten bit width field cells new
field_written bit width field cells new e = field_from bit width field cells new (list_all is_bits cells) refl e

-- what a store in a bit-field shows
pub record BitsPut (memory after : Blocks) (at : Ptr) (bit width field : ℕ) : Type 0 where
  pub block : Block
  pub cells : List Cell
  pub new : List Cell
  pub live : live_block memory at.block ≡ Some block
  pub part : part_of block at.offset (bytes_touched bit width) ≡ Ok cells
  pub written : FieldWritten bit width field cells new
  pub made : after ≡ slice_set memory at.block (Some (with_part block at.offset new))

pub bits_put : (memory after : Blocks) (at : Ptr) (bit width field : ℕ) → after_put_bits memory at bit width field ≡ Ok after → BitsPut memory after at bit width field
bits_put memory after at bit width field e =
    let write : Block → List Cell → Result Block Fault = λ block cells. and_then (with_field_in bit width field cells) (λ new. Ok (with_part block at.offset new)) in
    let step : Block → Result Block Fault = λ block. and_then (part_of block at.offset (bytes_touched bit width)) (write block) in
    let change = changed memory after at.block step e in
    let parts = and_then_ok (part_of change.block at.offset (bytes_touched bit width)) (write change.block) change.new change.stepped in
    let fields = and_then_ok (with_field_in bit width field parts.0) (λ new. Ok (with_part change.block at.offset new)) change.new parts.2 in
    let new : change.new ≡ with_part change.block at.offset fields.0 = cc (fields.2) in
    record {
      block = change.block;
      cells = parts.0;
      new = fields.0;
      live = change.live;
      part = parts.1;
      written = field_written bit width field parts.0 fields.0 fields.1;
      made = change.made ∙ ap (λ block. slice_set memory at.block (Some block)) new;
    }

pub length_new : (bit width field : ℕ) (cells new : List Cell) → FieldWritten bit width field cells new → length new ≡ length cells
length_new bit width field cells new w = ap length w.made ∙ length-bit_cells (length cells) _ _

pub put_bits_writes : (memory after : Blocks) (at : Ptr) (bit width field : ℕ) → after_put_bits memory at bit width field ≡ Ok after → Writes memory at (bytes_touched bit width) after
put_bits_writes memory after at bit width field e =
    let put = bits_put memory after at bit width field e in
    record {
      block = put.block;
      cells = put.new;
      live = put.live;
      many = length_new bit width field put.cells put.new put.written ∙ length_part put.block at.offset (bytes_touched bit width) put.cells put.part;
      within = (part_ok put.block at.offset (bytes_touched bit width) put.cells put.part).0;
      made = put.made;
    }

-- cells that are given, whatever stood there
given_writes : (memory after : Blocks) (at : Ptr) (count : ℕ) (cells : List Cell) → length cells ≡ count → live_change memory at.block (λ block. and_then (part_of block at.offset count) (λ _. Ok (with_part block at.offset cells))) ≡ Ok after → Writes memory at count after
given_writes memory after at count cells many e =
    let step : Block → Result Block Fault = λ block. and_then (part_of block at.offset count) (λ _. Ok (with_part block at.offset cells)) in
    let change = changed memory after at.block step e in
    let parts = and_then_ok (part_of change.block at.offset count) (λ _. Ok (with_part change.block at.offset cells)) change.new change.stepped in
    let new : change.new ≡ with_part change.block at.offset cells = cc (parts.2) in
    record {
      block = change.block;
      cells = cells;
      live = change.live;
      many = many;
      within = (part_ok change.block at.offset count parts.0 parts.1).0;
      made = change.made ∙ ap (λ block. slice_set memory at.block (Some block)) new;
    }

pub fill_writes : (memory after : Blocks) (at : Ptr) (byte count : ℕ) → after_fill memory at byte count ≡ Ok after → Writes memory at count after
fill_writes memory after at byte count e =
    given_writes memory after at count (replicate count (byte_cell byte)) (length-replicate count (byte_cell byte)) e

pub put_cell_writes : (memory after : Blocks) (at : Ptr) (cell : Cell) → after_put_cell memory at cell ≡ Ok after → Writes memory at 1 after
put_cell_writes memory after at cell e = given_writes memory after at 1 (cell ∷ []) refl e

pub put_record_writes : (memory after : Blocks) (at : Ptr) (align : ℕ) (cells : List Cell) → after_put_record memory at align cells ≡ Ok after → Writes memory at (length cells) after
put_record_writes memory after at align cells e =
    let step : Block → Result Block Fault = λ block. and_then (record_part_of block at.offset (length cells) align) (λ _. Ok (with_part block at.offset cells)) in
    let change = changed memory after at.block step e in
    let parts = and_then_ok (record_part_of change.block at.offset (length cells) align) (λ _. Ok (with_part change.block at.offset cells)) change.new change.stepped in
    let held = and_then_ok (part_of change.block at.offset (length cells)) (λ found. cond (is_record_aligned align change.block at.offset) (Ok found) (Err Misaligned)) parts.0 parts.1 in
    let new : change.new ≡ with_part change.block at.offset cells = cc (parts.2) in
    record {
      block = change.block;
      cells = cells;
      live = change.live;
      many = refl;
      within = (part_ok change.block at.offset (length cells) held.0 held.1).0;
      made = change.made ∙ ap (λ block. slice_set memory at.block (Some block)) new;
    }

copied_writes : (memory after : Blocks) (from to : Ptr) (count : ℕ) (source target : Option Block) → live_block memory to.block ≡ target → copied_between memory from to count source target ≡ Ok after → Writes memory to count after
copied_writes memory after from to count None None live e = cc
copied_writes memory after from to count None (Some target) live e = cc
copied_writes memory after from to count (Some source) None live e = cc
copied_writes memory after from to count (Some source) (Some target) live e =
    let made = and_then_ok (block_with_copy target to.offset source from.offset count) (λ block. Ok (slice_set memory to.block (Some block))) after e in
    let read = and_then_ok (part_of source from.offset count) (λ cells. and_then (part_of target to.offset count) (λ _. Ok (with_part target to.offset cells))) made.0 made.1 in
    let room = and_then_ok (part_of target to.offset count) (λ _. Ok (with_part target to.offset read.0)) made.0 read.2 in
    let block : made.0 ≡ with_part target to.offset read.0 = cc (room.2) in
    let result : after ≡ slice_set memory to.block (Some made.0) = cc (made.2) in
    record {
      block = target;
      cells = read.0;
      live = live;
      many = length_part source from.offset count read.0 read.1;
      within = (part_ok target to.offset count room.0 room.1).0;
      made = result ∙ ap (λ b. slice_set memory to.block (Some b)) block;
    }

pub copy_writes : (memory after : Blocks) (from to : Ptr) (count : ℕ) → 0 < count → after_copy memory from to count ≡ Ok after → Writes memory to count after
copy_writes memory after from to count p e =
    copied_writes memory after from to count (live_block memory from.block) (live_block memory to.block) refl (sym (cond-false _ _ _ (ne_eqb count 0 (λ none. omega arith))) ∙ e)

-- ---- what stays

-- an access elsewhere finds what it found: a step that goes by the alignment and the part of a block
stays : {A : Type 0} (find : ℕ → Result (List Cell) Fault → Result A Fault) (memory after : Blocks) (at other : Ptr) (count many : ℕ) → Writes memory at count after → AreApart at count other many → live_read (live_block after other.block) (λ block. find block.align (part_of block other.offset many)) ≡ live_read (live_block memory other.block) (λ block. find block.align (part_of block other.offset many))
stays find memory after at other count many w apart =
    ⊎_elim (λ (same : at.block ≡ other.block). inside same (beside same apart)) elsewhere (cases_eq at.block other.block)
  where
    elsewhere : at.block ≢ other.block → live_read (live_block after other.block) (λ block. find block.align (part_of block other.offset many)) ≡ live_read (live_block memory other.block) (λ block. find block.align (part_of block other.offset many))
    elsewhere away = ap (λ slot. live_read slot (λ block. find block.align (part_of block other.offset many))) (ap (λ m. live_block m other.block) w.made ∙ live-set_other memory at.block other.block _ away)

    beside : at.block ≡ other.block → AreApart at count other many → (at.offset + length w.cells ≤ other.offset) ⊎ (other.offset + many ≤ at.offset)
    beside same (inl away) = absurd (away same)
    beside same (inr (inl behind)) = inl (omega (arith, w.many))
    beside same (inr (inr before)) = inr before

    inside : at.block ≡ other.block → (at.offset + length w.cells ≤ other.offset) ⊎ (other.offset + many ≤ at.offset) → live_read (live_block after other.block) (λ block. find block.align (part_of block other.offset many)) ≡ live_read (live_block memory other.block) (λ block. find block.align (part_of block other.offset many))
    inside same split =
        let new : live_block after other.block ≡ Some (with_part w.block at.offset w.cells) = ap (live_block after) (sym same) ∙ ap (λ m. live_block m at.block) w.made ∙ live-set_same memory at.block _ (live_within memory at.block w.block w.live) in
        let old : live_block memory other.block ≡ Some w.block = ap (live_block memory) (sym same) ∙ w.live in
        ap (λ slot. live_read slot (λ block. find block.align (part_of block other.offset many))) new
        ∙ ap (find w.block.align) (part_of-with_part_beside w.block at.offset w.cells (omega (arith, w.within, w.many)) other.offset many split)
        ∙ sym (ap (λ slot. live_read slot (λ block. find block.align (part_of block other.offset many))) old)

pub cells_stay : (memory after : Blocks) (at other : Ptr) (count many : ℕ) → Writes memory at count after → AreApart at count other many → part_at after other many ≡ part_at memory other many
cells_stay memory after at other count many w apart = stays (λ align part. part) memory after at other count many w apart

pub values_stay : (memory after : Blocks) (at other : Ptr) (count : ℕ) (scalar : Scalar) → Writes memory at count after → AreApart at count other (scalar_size scalar) → value_at after other scalar ≡ value_at memory other scalar
values_stay memory after at other count scalar w apart =
    stays (λ align part. and_then (and_then part (λ cells. cond (other.offset % scalar_size scalar == 0 && nat_le (scalar_size scalar) align) (Ok cells) (Err Misaligned))) (value_of scalar)) memory after at other count (scalar_size scalar) w apart

pub fields_stay : (memory after : Blocks) (at other : Ptr) (count bit width : ℕ) → Writes memory at count after → AreApart at count other (bytes_touched bit width) → field_at after other bit width ≡ field_at memory other bit width
fields_stay memory after at other count bit width w apart =
    stays (λ align part. and_then part (field_in bit width)) memory after at other count (bytes_touched bit width) w apart

pub records_stay : (memory after : Blocks) (at other : Ptr) (count size align : ℕ) → Writes memory at count after → AreApart at count other size → record_at after other size align ≡ record_at memory other size align
records_stay memory after at other count size align w apart =
    stays (λ aligned part. and_then part (λ cells. cond (other.offset % align == 0 && nat_le align aligned) (Ok cells) (Err Misaligned))) memory after at other count size w apart

-- ---- loads after stores

-- the cells that were written are the part of their place
part_written : (block : Block) (offset count : ℕ) (cells : List Cell) → length cells ≡ count → offset + count ≤ size_of block → part_of (with_part block offset cells) offset count ≡ Ok cells
part_written block offset count cells many inside =
    let room : offset + length cells ≤ size_of block = omega arith in
    part_inside (with_part block offset cells) offset count (omega (arith, size_of-with_part block offset cells room))
    ∙ ap (λ n. Ok (take n (drop offset (with_part block offset cells).cells))) (sym many)
    ∙ ap Ok (written_part block offset cells room)

scalar_part_written : (block : Block) (offset : ℕ) (scalar : Scalar) (cells : List Cell) → length cells ≡ scalar_size scalar → offset + scalar_size scalar ≤ size_of block → is_aligned scalar block offset ≡ true → scalar_part_of (with_part block offset cells) offset scalar ≡ Ok cells
scalar_part_written block offset scalar cells many inside fits =
    ap (λ found. and_then found (λ held. cond (is_aligned scalar block offset) (Ok held) (Err Misaligned))) (part_written block offset (scalar_size scalar) cells many inside) ∙ cond-true _ _ _ fits

pub loads_stored : (memory after : Blocks) (at : Ptr) (scalar : Scalar) (value : Value) → IsScalar scalar → IsValueOf scalar value → after_put memory at scalar value ≡ Ok after → value_at after at scalar ≡ Ok value
loads_stored memory after at scalar value p q e =
    let cells = cells_of scalar value in
    let step : Block → Result Block Fault = λ block. and_then (scalar_part_of block at.offset scalar) (λ _. Ok (with_part block at.offset cells)) in
    let change = changed memory after at.block step e in
    let parts = and_then_ok (scalar_part_of change.block at.offset scalar) (λ _. Ok (with_part change.block at.offset cells)) change.new change.stepped in
    let reached = scalar_part_ok change.block at.offset scalar parts.0 parts.1 in
    let inside = part_ok change.block at.offset (scalar_size scalar) parts.0 reached.0 in
    let new : change.new ≡ with_part change.block at.offset cells = cc (parts.2) in
    let live : live_block after at.block ≡ Some (with_part change.block at.offset cells) = ap (λ m. live_block m at.block) change.made ∙ live-set_same memory at.block change.new (live_within memory at.block change.block change.live) ∙ ap Some new in
    ap (λ slot. live_read slot (λ block. and_then (scalar_part_of block at.offset scalar) (value_of scalar))) live
    ∙ ap (λ part. and_then part (value_of scalar)) (scalar_part_written change.block at.offset scalar cells (length-cells_of scalar value p q) inside.0 reached.1)
    ∙ value_of-cells_of scalar value p q

pub loads_stored_bits : (memory after : Blocks) (at : Ptr) (bit width field : ℕ) → IsFieldPlace bit width → field < 2 ^ width → after_put_bits memory at bit width field ≡ Ok after → field_at after at bit width ≡ Ok field
loads_stored_bits memory after at bit width field place p e =
    let put = bits_put memory after at bit width field e in
    let count = bytes_touched bit width in
    let many : length put.cells ≡ count = length_part put.block at.offset count put.cells put.part in
    let inside = part_ok put.block at.offset count put.cells put.part in
    let live : live_block after at.block ≡ Some (with_part put.block at.offset put.new) = ap (λ m. live_block m at.block) put.made ∙ live-set_same memory at.block _ (live_within memory at.block put.block put.live) in
    ap (λ slot. live_read slot (λ block. and_then (part_of block at.offset count) (field_in bit width))) live
    ∙ ap (λ part. and_then part (field_in bit width)) (part_written put.block at.offset count put.new (length_new bit width field put.cells put.new put.written ∙ many) inside.0)
    ∙ ap (field_in bit width) put.written.made
    ∙ field_in-with_field (length put.cells) bit width field (bits_of put.cells) (set_of put.cells) (omega (arith, many)) p

-- what was copied stands there
copied_stands : (memory after : Blocks) (from to : Ptr) (count : ℕ) (source target : Option Block) → live_block memory from.block ≡ source → live_block memory to.block ≡ target → copied_between memory from to count source target ≡ Ok after → part_at after to count ≡ part_at memory from count
copied_stands memory after from to count None None live there e = cc
copied_stands memory after from to count None (Some target) live there e = cc
copied_stands memory after from to count (Some source) None live there e = cc
copied_stands memory after from to count (Some source) (Some target) live there e =
    let made = and_then_ok (block_with_copy target to.offset source from.offset count) (λ block. Ok (slice_set memory to.block (Some block))) after e in
    let read = and_then_ok (part_of source from.offset count) (λ cells. and_then (part_of target to.offset count) (λ _. Ok (with_part target to.offset cells))) made.0 made.1 in
    let room = and_then_ok (part_of target to.offset count) (λ _. Ok (with_part target to.offset read.0)) made.0 read.2 in
    let block : made.0 ≡ with_part target to.offset read.0 = cc (room.2) in
    let result : slice_set memory to.block (Some made.0) ≡ after = cc (made.2) in
    let new : live_block after to.block ≡ Some (with_part target to.offset read.0) = ap (λ m. live_block m to.block) (sym result) ∙ live-set_same memory to.block made.0 (live_within memory to.block target there) ∙ ap Some block in
    let many = length_part source from.offset count read.0 read.1 in
    ap (λ slot. live_read slot (λ b. part_of b to.offset count)) new
    ∙ part_written target to.offset count read.0 many (part_ok target to.offset count room.0 room.1).0
    ∙ sym read.1
    ∙ sym (ap (λ slot. live_read slot (λ b. part_of b from.offset count)) live)

-- what was copied was there
copied_read : (memory after : Blocks) (from to : Ptr) (count : ℕ) (source target : Option Block) → live_block memory from.block ≡ source → copied_between memory from to count source target ≡ Ok after → (cells : List Cell) × (part_at memory from count ≡ Ok cells)
copied_read memory after from to count None None live e = cc
copied_read memory after from to count None (Some target) live e = cc
copied_read memory after from to count (Some source) None live e = cc
copied_read memory after from to count (Some source) (Some target) live e =
    let made = and_then_ok (block_with_copy target to.offset source from.offset count) (λ block. Ok (slice_set memory to.block (Some block))) after e in
    let read = and_then_ok (part_of source from.offset count) (λ cells. and_then (part_of target to.offset count) (λ _. Ok (with_part target to.offset cells))) made.0 made.1 in
    (read.0, ap (λ slot. live_read slot (λ b. part_of b from.offset count)) live ∙ read.1)

pub copy_read : (memory after : Blocks) (from to : Ptr) (count : ℕ) → 0 < count → after_copy memory from to count ≡ Ok after → (cells : List Cell) × (part_at memory from count ≡ Ok cells)
copy_read memory after from to count p e =
    copied_read memory after from to count (live_block memory from.block) (live_block memory to.block) refl (sym (cond-false _ _ _ (ne_eqb count 0 (λ none. omega arith))) ∙ e)

pub copy_stands : (memory after : Blocks) (from to : Ptr) (count : ℕ) → 0 < count → after_copy memory from to count ≡ Ok after → part_at after to count ≡ part_at memory from count
copy_stands memory after from to count p e =
    copied_stands memory after from to count (live_block memory from.block) (live_block memory to.block) refl refl (sym (cond-false _ _ _ (ne_eqb count 0 (λ none. omega arith))) ∙ e)
