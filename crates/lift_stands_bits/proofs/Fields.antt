-- Loads and stores of bit-fields, by the bytes of the crate.
use Rattle.std.proofs.Common.{◌≡◌, ℕ, ◌+◌, ◌-◌, ◌*◌, ◌^◌, ◌<◌, ◌≤◌, ◌==◌, Bool, true, false, cond, All, List, map, length, drop, Some, Result, Ok, Err, refl, sym, ap, ◌∙◌, subst, arith}
use Rattle.std.specs.List.{list_all}
use Rattle.std.proofs.lemmas.Bool.{eqb-true, cond-true}
use Rattle.std.proofs.lemmas.List.{length-map}
use Rattle.std.proofs.lemmas.List.Elements.{All-take, All-drop}
use Rattle.std.proofs.lemmas.Nat.{pow_pos}
use Rattle.mem_bytes.specs.declared.cell.Cell.{Cell}
use Rattle.mem_bytes.specs.declared.fault.Fault.{Fault}
use Rattle.mem_bytes.specs.declared.fault.Fault.TheVariants.{Unset, MixedPointer}
use Rattle.mem_bytes.specs.declared.value.Ptr.{Ptr}
use Rattle.mem_bytes.specs.Access.{and_then, part_of, live_read, block_field, block_with_field, field_at, after_put_bits}
use Rattle.mem_bytes.specs.Bits.{bytes_touched, field_of, with_field, bit_cells, field_in, with_field_in}
use Rattle.mem_bytes.specs.Coding.{is_bits, bits_of, set_of, bytes_of, number_of}
use Rattle.mem_bytes.specs.Laws.{IsHeld, Writes}
use Rattle.mem_bytes.specs.Memory.{Block, Blocks, live_block, byte_cell, with_part}
use Rattle.mem_bytes.proofs.Reached.{and_then_ok, part_ok, length_part}
use Rattle.mem_bytes.proofs.Windows.{bytes_all}
use Rattle.mem_bytes.proofs.Written.{bits_put, field_written, put_bits_writes}
use Rattle.mem_bytes_bits.specs.Laws.{HoldsBytes, after_put_bytes, with_field_bytes}
use Rattle.mem_bytes_bits.proofs.ByBytes.{all_bits, bits_back, all_set, set_cells, stays_set, touched, field_stored}
use Rattle.lift_stands.specs.Stands.{Images, PlaceBelow, CellsBelow, BlockBelow, StandsFor}
use Rattle.lift_stands.proofs.Loads.{block_there, part_there, read_live}
use Rattle.lift_stands.proofs.Stores.{StepsTo, change_stands, part_steps}
use Rattle.lift_stands.specs.Worlds.{HeldStands}
use Rattle.lift_stands_lives.proofs.Stored.{leaves}
use Rattle.cr_world.specs.Held.{Held}
use Rattle.lift_stands_bits.specs.Laws.{FieldInBytes, FieldByBytes, FieldLeaves}
use Rattle.lift_stands_bits.proofs.Alike.{bytes_beside, numbers_alike, cells_below_bytes}
use Rattle.lift_stands_bits.proofs.Numbers.{SetAlike, fields_alike, puts_alike}

-- ---- parts

held_of_part : (block : Block) (offset count : ℕ) (cells : List Cell) → All IsHeld block.cells → part_of block offset count ≡ Ok cells → All IsHeld cells
held_of_part block offset count cells held e =
    subst (All IsHeld) (sym (part_ok block offset count cells e).1) (All-take IsHeld count (drop offset block.cells) (All-drop IsHeld offset block.cells held))

-- the bytes of the crate beside a part of cells of bits, and what their number has of C's
record BytesBeside (other : Block) (offset count : ℕ) (cells : List Cell) : Type 0 where
  bytes : List ℕ
  found : part_of other offset count ≡ Ok (map byte_cell bytes)
  small : All (λ byte. byte < 256) bytes
  alike : SetAlike (bits_of cells) (set_of cells) (number_of bytes)
  many : length bytes ≡ count

bytes_there : (images : Images) (block other : Block) (offset there count : ℕ) (cells : List Cell) → images.in_bytes ≡ true → BlockBelow images block other → All IsHeld block.cells → All IsHeld other.cells → there ≡ offset → part_of block offset count ≡ Ok cells → list_all is_bits cells ≡ true → BytesBeside other there count cells
bytes_there images block other offset there count cells in_bytes below held others_held same e bits =
    let part = part_there images block other below offset there same count cells e in
    let are = bytes_beside images cells part.0 in_bytes part.2 bits (held_of_part other there count part.0 others_held part.1) in
    let found : part_of other there count ≡ Ok (map byte_cell are.bytes) = part.1 ∙ ap Ok are.same in
    record {
      bytes = are.bytes;
      found = found;
      small = are.small;
      alike = numbers_alike images cells are.bytes (subst (CellsBelow images cells) are.same part.2) bits (held_of_part block offset count cells held e) are.small;
      many = sym (length-map are.bytes byte_cell) ∙ length_part other there count (map byte_cell are.bytes) found;
    }

bytes_held : (others : Blocks) (to : Ptr) (other : Block) (count : ℕ) (bytes : List ℕ) → live_block others to.block ≡ Some other → 0 < other.align → All (λ byte. byte < 256) bytes → part_of other to.offset count ≡ Ok (map byte_cell bytes) → HoldsBytes others to count bytes
bytes_held others to other count bytes live aligned small found = record {
  block = other;
  live = live;
  aligned = aligned;
  are_bytes = small;
  found = ap (λ slot. live_read slot (λ block. part_of block to.offset count)) live ∙ found;
}

-- ---- loads

-- what a bit-field that has a value shows
record FieldShown (bit width field : ℕ) (cells : List Cell) : Type 0 where
  whole : field_of bit width (set_of cells) ≡ 2 ^ width - 1
  bits : list_all is_bits cells ≡ true
  is : field ≡ field_of bit width (bits_of cells)

shown : (bit width field : ℕ) (cells : List Cell) → field_in bit width cells ≡ Ok field → FieldShown bit width field cells
shown bit width field cells e = from_tests (field_of bit width (set_of cells) == 2 ^ width - 1) (list_all is_bits cells) refl refl e
  where
    from_tests : (whole bits : Bool) → (field_of bit width (set_of cells) == 2 ^ width - 1) ≡ whole → list_all is_bits cells ≡ bits → cond whole (cond bits (Ok (field_of bit width (bits_of cells))) (Err MixedPointer)) (Err Unset) ≡ Ok field → FieldShown bit width field cells
    from_tests true true p q e = record { whole = eqb-true (field_of bit width (set_of cells)) (2 ^ width - 1) p; bits = q; is = cc }
    from_tests true false p q e = cc
    from_tests false bits p q e = cc

module _ (images : Images) (memory others : Blocks) (at to : Ptr) (bit width field : ℕ) (in_bytes : images.in_bytes ≡ true) (stands : StandsFor images memory others) (place : PlaceBelow images at to) where
  pub field_loaded : field_at memory at bit width ≡ Ok field → FieldInBytes others to bit width field
  field_loaded e =
      let read = read_live (live_block memory at.block) (λ block. block_field block at.offset bit width) field e in
      let there = block_there images memory others at to read.0 stands place read.1 in
      let parts = and_then_ok (part_of read.0 at.offset (bytes_touched bit width)) (field_in bit width) field read.2 in
      let show = shown bit width field parts.0 parts.2 in
      let beside = bytes_there images read.0 there.other at.offset to.offset (bytes_touched bit width) parts.0 in_bytes there.below (stands.held at.block read.0 read.1) (stands.others_held to.block there.other there.live) place.offset parts.1 show.bits in
      record {
        bytes = beside.bytes;
        holds = bytes_held others to there.other (bytes_touched bit width) beside.bytes there.live there.below.aligned beside.small beside.found;
        same = show.is ∙ fields_alike bit width (bits_of parts.0) (set_of parts.0) (number_of beside.bytes) beside.alike show.whole;
      }

-- ---- stores

-- bytes with another field are bytes
field_put : (bit width field : ℕ) (bytes : List ℕ) → bit + width ≤ 8 * length bytes → with_field_in bit width field (map byte_cell bytes) ≡ Ok (map byte_cell (bytes_of (length bytes) (with_field bit width field (number_of bytes))))
field_put bit width field bytes wide =
    let cells = map byte_cell bytes in
    let ones = 2 ^ width - 1 in
    cond-true _ _ _ (all_bits bytes)
    ∙ ap Ok
    (ap (λ n. bit_cells n (with_field bit width field (bits_of cells)) (with_field bit width ones (set_of cells))) (length-map bytes byte_cell)
    ∙ ap (λ n. bit_cells (length bytes) (with_field bit width field n) (with_field bit width ones (set_of cells))) (bits_back bytes)
    ∙ ap (λ n. bit_cells (length bytes) (with_field bit width field (number_of bytes)) n) (stays_set (8 * length bytes) bit width (set_of cells) wide (all_set bytes))
    ∙ set_cells (length bytes) (with_field bit width field (number_of bytes)) (set_of cells) (all_set bytes))

bytes_are_held : (count number : ℕ) → All IsHeld (map byte_cell (bytes_of count number))
bytes_are_held count number =
    let some : 0 < 2 ^ (8 * count) = pow_pos (8 * count) in
    let again : 2 ^ (8 * count) - 1 + 1 ≡ 2 ^ (8 * count) = omega (arith, some) in
    subst (All IsHeld) (set_cells count number (2 ^ (8 * count) - 1) again) (bytes_all count number (2 ^ (8 * count) - 1))

module _ (images : Images) (memory after others : Blocks) (at to : Ptr) (bit width field : ℕ) (in_bytes : images.in_bytes ≡ true) (stands : StandsFor images memory others) (place : PlaceBelow images at to) (small : field < 2 ^ width) where
  -- the same store of the crate, in one block
  step_stands : (block new other : Block) → BlockBelow images block other → All IsHeld block.cells → All IsHeld other.cells → block_with_field block at.offset bit width field ≡ Ok new → StepsTo images new (block_with_field other to.offset bit width field)
  step_stands block new other below held others_held e =
      let count = bytes_touched bit width in
      let parts = and_then_ok (part_of block at.offset count) (λ cells. and_then (with_field_in bit width field cells) (λ put. Ok (with_part block at.offset put))) new e in
      let puts = and_then_ok (with_field_in bit width field parts.0) (λ put. Ok (with_part block at.offset put)) new parts.2 in
      let written = field_written bit width field parts.0 puts.0 puts.1 in
      let made : with_part block at.offset puts.0 ≡ new = cc (puts.2) in
      let beside = bytes_there images block other at.offset to.offset count parts.0 in_bytes below held others_held place.offset parts.1 written.bits in
      let number = with_field bit width field (number_of beside.bytes) in
      let given = map byte_cell (bytes_of (length beside.bytes) number) in
      let lengths : length parts.0 ≡ length beside.bytes = length_part block at.offset count parts.0 parts.1 ∙ sym beside.many in
      let cells : CellsBelow images puts.0 given =
      subst (λ (list : List Cell). CellsBelow images list given) (sym (written.made ∙ ap (λ n. bit_cells n (with_field bit width field (bits_of parts.0)) (with_field bit width (2 ^ width - 1) (set_of parts.0))) lengths))
      (cells_below_bytes images (length beside.bytes) (with_field bit width field (bits_of parts.0)) (with_field bit width (2 ^ width - 1) (set_of parts.0)) number (puts_alike bit width field (bits_of parts.0) (set_of parts.0) (number_of beside.bytes) small beside.alike)) in
      let wide : bit + width ≤ 8 * length beside.bytes = omega (arith, beside.many, touched bit width) in
      let cells_held : All IsHeld puts.0 = subst (All IsHeld) (sym written.made) (bytes_all (length parts.0) _ _) in
      part_steps images block new other below held others_held at.offset to.offset place.offset puts.0 given cells cells_held (bytes_are_held (length beside.bytes) number) (block_with_field other to.offset bit width field) made
      (ap (λ r. and_then r (λ list. and_then (with_field_in bit width field list) (λ put. Ok (with_part other to.offset put)))) beside.found
      ∙ ap (λ r. and_then r (λ put. Ok (with_part other to.offset put))) (field_put bit width field beside.bytes wide))

  pub field_by_bytes : after_put_bits memory at bit width field ≡ Ok after → FieldByBytes images after others to bit width field
  field_by_bytes e =
      let stored = change_stands images memory after others at to (λ block. block_with_field block at.offset bit width field) (λ block. block_with_field block to.offset bit width field) stands place step_stands e in
      let put = bits_put memory after at bit width field e in
      let there = block_there images memory others at to put.block stands place put.live in
      let beside = bytes_there images put.block there.other at.offset to.offset (bytes_touched bit width) put.cells in_bytes there.below (stands.held at.block put.block put.live) (stands.others_held to.block there.other there.live) place.offset put.part put.written.bits in
      let holds = bytes_held others to there.other (bytes_touched bit width) beside.bytes there.live there.below.aligned beside.small beside.found in
      record {
        bytes = beside.bytes;
        holds = holds;
        beyond = stored.other;
        done = field_stored others stored.other to bit width field beside.bytes holds small stored.done;
        writes = put_bits_writes others stored.other to bit width field stored.done;
        stands = stored.stands;
      }

pub field_leaves : (images : Images) (held other : Held) (after : Blocks) (at to : Ptr) (bit width field : ℕ) → images.in_bytes ≡ true → HeldStands images held other → PlaceBelow images at to → field < 2 ^ width → after_put_bits held.blocks at bit width field ≡ Ok after → FieldLeaves images held other after to bit width field
field_leaves images held other after at to bit width field in_bytes stands place small e =
    let by_bytes = field_by_bytes images held.blocks after other.blocks at to bit width field in_bytes stands.memories place small e in
    record {
      bytes = by_bytes.bytes;
      holds = by_bytes.holds;
      stored = leaves images held other after at to stands place (bytes_touched bit width) (bytes_touched bit width) (after_put_bytes other.blocks to (with_field_bytes bit width field by_bytes.bytes)) (record { other = by_bytes.beyond; done = by_bytes.done; stands = by_bytes.stands }) (put_bits_writes held.blocks after at bit width field e)
          (λ beyond f. subst (λ m. Writes other.blocks to (bytes_touched bit width) m) (one_memory (after_put_bytes other.blocks to (with_field_bytes bit width field by_bytes.bytes)) by_bytes.beyond beyond by_bytes.done f) by_bytes.writes);
    }
  where
    one_memory : (result : Result Blocks Fault) (one two : Blocks) → result ≡ Ok one → result ≡ Ok two → one ≡ two
    one_memory result one two e f = cc
