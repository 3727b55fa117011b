-- Bit-fields of values of structures and unions, by the bytes of the crate where it holds the value.
use Rattle.std.proofs.Common.{◌≡◌, ℕ, ◌+◌, ◌-◌, ◌^◌, ◌<◌, ◌==◌, ◌%◌, nat_le, Bool, true, false, cond, List, drop, All, Result, Ok, Err, refl, sym, ap, ◌∙◌, subst, arith}
use Rattle.std.specs.List.{list_all}
use Rattle.std.proofs.Math.Nat.{mod-one}
use Rattle.std.proofs.lemmas.Bool.{and_parts, eqb-true, leb-true}
use Rattle.std.proofs.lemmas.List.Elements.{All-take, All-drop}
use Rattle.cr_base.specs.declared.layout.Spot.{Spot}
use Rattle.cr_base.specs.declared.scalar.Scalar.{Scalar}
use Rattle.cx_mean.specs.Accesses.{is_field_place, field_value}
use Rattle.cx_mean.specs.Nodes.{value_part, member_bits}
use Rattle.cx_mean.specs.Operands.{CWhy, CValue, scalar, accessed}
use Rattle.lift_stands.specs.Stands.{Images, CellsBelow, StandsFor, PlaceHolds}
use Rattle.lift_stands_accesses.proofs.Results.{accessed_ok, where_true}
use Rattle.lift_stands_bits.proofs.Alike.{bytes_beside, numbers_alike}
use Rattle.lift_stands_bits.proofs.Numbers.{fields_alike}
use Rattle.lift_stands_values.specs.Members.{FitsAt, BitsLoaded}
use Rattle.lift_stands_values.proofs.MemberValues.{part_there}
use Rattle.mem_bytes.specs.Access.{and_then, part_of, live_read}
use Rattle.mem_bytes.specs.Bits.{bytes_touched, field_of, field_in}
use Rattle.mem_bytes.specs.Coding.{is_bits, bits_of, set_of, number_of}
use Rattle.mem_bytes.specs.Laws.{IsHeld, behind}
use Rattle.mem_bytes.specs.Memory.{Blocks}
use Rattle.mem_bytes.specs.declared.cell.Cell.{Cell}
use Rattle.mem_bytes.specs.declared.fault.Fault.TheVariants.{Unset, MixedPointer}
use Rattle.mem_bytes.specs.declared.value.Ptr.{Ptr}
use Rattle.mem_bytes.specs.declared.value.Value.{Value}
use Rattle.mem_bytes.specs.declared.value.Value.TheVariants.{Object}
use Rattle.mem_bytes.proofs.Reached.{and_then_ok, part_ok}

-- what a bit-field that has a value shows
record FieldShown (bit width field : ℕ) (list : List Cell) : Type 0 where
  whole : field_of bit width (set_of list) ≡ 2 ^ width - 1
  bits : list_all is_bits list ≡ true
  is : field ≡ field_of bit width (bits_of list)

shown : (bit width field : ℕ) (list : List Cell) → field_in bit width list ≡ Ok field → FieldShown bit width field list
shown bit width field list e = from_tests (field_of bit width (set_of list) == 2 ^ width - 1) (list_all is_bits list) refl refl e
  where
    from_tests : (whole bits : Bool) → (field_of bit width (set_of list) == 2 ^ width - 1) ≡ whole → list_all is_bits list ≡ bits → cond whole (cond bits (Ok (field_of bit width (bits_of list))) (Err MixedPointer)) (Err Unset) ≡ Ok field → FieldShown bit width field list
    from_tests true true p q f = record { whole = eqb-true (field_of bit width (set_of list)) (2 ^ width - 1) p; bits = q; is = cc }
    from_tests true false p q f = cc
    from_tests false bits p q f = cc

-- a byte may stand anywhere
byte_fits : (align byte : ℕ) → 0 < align → FitsAt 1 align byte
byte_fits align byte some = record { at_byte = mod-one byte; at_begin = mod-one align; within = omega (arith, some) }

pub bits_member : (images : Images) (memory others : Blocks) (align : ℕ) (source : Ptr) (list : List Cell) (spot : Spot) (width : ℕ) (kind : Scalar) (value : CValue) → images.in_bytes ≡ true → StandsFor images memory others → 0 < align → PlaceHolds images others align (Object source) list → member_bits spot width list kind ≡ Ok value → BitsLoaded others (behind source spot.byte) spot.bit width kind value
bits_member images memory others align source list spot width kind value in_bytes stands some holds e =
    let count = bytes_touched spot.bit width in
    let last : Value → Result CValue CWhy = λ one. Ok (scalar one) in
    let in_field : ℕ → Result CValue CWhy = λ bits. and_then (field_value kind width bits) last in
    let outer = where_true (is_field_place spot.bit width) (and_then (value_part list spot.byte count) (λ part. and_then (accessed (field_in spot.bit width part)) in_field)) value e in
    let first = and_then_ok (value_part list spot.byte count) (λ part. and_then (accessed (field_in spot.bit width part)) in_field) value outer.1 in
    let second = and_then_ok (accessed (field_in spot.bit width first.0)) in_field value first.2 in
    let third = and_then_ok (field_value kind width second.0) last value second.2 in
    let same : scalar third.0 ≡ value = cc (third.2) in
    let there = part_there images others align spot.byte count 1 source list first.0 holds (byte_fits align spot.byte some) first.1 in
    let show = shown spot.bit width second.0 first.0 (accessed_ok (field_in spot.bit width first.0) second.0 second.1) in
    let offset = source.offset + spot.byte in
    let block_held : All IsHeld there.block.cells = stands.others_held source.block there.block there.live in
    let found_held : All IsHeld there.found = subst (All IsHeld) (sym (part_ok there.block offset count there.found there.there).1) (All-take IsHeld count (drop offset there.block.cells) (All-drop IsHeld offset there.block.cells block_held)) in
    let are = bytes_beside images first.0 there.found in_bytes there.below show.bits found_held in
    let alike = numbers_alike images first.0 are.bytes (subst (CellsBelow images first.0) are.same there.below) show.bits there.held are.small in
    let tests = and_parts (offset % 1 == 0) (nat_le 1 there.block.align) there.fits in
    record {
      one = third.0;
      is = sym same;
      field = second.0;
      means = third.1;
      bytes = record {
        bytes = are.bytes;
        holds = record {
          block = there.block;
          live = there.live;
          aligned = omega (arith, leb-true 1 there.block.align tests.1);
          are_bytes = are.small;
          found = ap (λ slot. live_read slot (λ block. part_of block offset count)) there.live ∙ there.there ∙ ap Ok are.same;
        };
        same = show.is ∙ fields_alike spot.bit width (bits_of first.0) (set_of first.0) (number_of are.bytes) alike show.whole;
      };
    }
