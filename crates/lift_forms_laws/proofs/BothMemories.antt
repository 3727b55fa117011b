-- Bit-fields of C beside what the crate reads and writes.
use Rattle.std.proofs.Common.{◌≡◌, ℕ, zero, suc, ◌/◌, ◌^◌, ◌≤◌, true, ℤ, pos, List, [], ◌∷◌, take, drop, slice_set, Some, Result, Ok, refl, sym, ap, ◌∙◌, subst, arith}
use Rattle.std.specs.List.{list_all}
use Rattle.std.proofs.Math.Nat.{mod-eq_of_lt, mod-lt}
use Rattle.std.proofs.lemmas.Bool.{cond-true}
use Rattle.std.proofs.lemmas.List.{take-take}
use Rattle.std.proofs.lemmas.Nat.{pow_pos}
use Rattle.cr_base.proofs.Residues.{residue_below}
use Rattle.cr_base.specs.Scalar.{residue}
use Rattle.cr_base.specs.declared.layout.Spot.{Spot}
use Rattle.cr_base.specs.declared.scalar.Scalar.{Scalar}
use Rattle.cr_base.specs.declared.scalar.Scalar.TheVariants as scalar_type
use Rattle.cr_world.specs.Held.{Held}
use Rattle.cr_world.specs.World.{World}
use Rattle.cx_mean.specs.Accesses.{is_field_place, field_value, CLoaded, loaded_bits, CStored, stored_bits}
use Rattle.cx_mean.specs.Marks.{Marks, Range, bits_of_field, with_write}
use Rattle.cx_mean.specs.Operands.{CWhy, CValue, scalar, accessed, sequenced_after}
use Rattle.cx_mean.specs.Values.{is_of_kind, value_of_kind, number_in}
use Rattle.mem_bytes.specs.Access.{and_then, part_of, part_at, live_read, block_with_field, after_put_bits}
use Rattle.mem_bytes.specs.Bits.{bytes_touched, field_of, with_field_in}
use Rattle.mem_bytes.specs.Coding.{is_bits, number_of}
use Rattle.mem_bytes.specs.Laws.{behind}
use Rattle.mem_bytes.specs.Memory.{Blocks, with_part}
use Rattle.mem_bytes.specs.declared.cell.Cell.{Cell}
use Rattle.mem_bytes.specs.declared.cell.Cell.TheVariants.{Bits, PtrByte}
use Rattle.mem_bytes.specs.declared.fault.Fault.{Fault}
use Rattle.mem_bytes.specs.declared.value.Ptr.{Ptr}
use Rattle.mem_bytes.specs.declared.value.Value.{Value}
use Rattle.mem_bytes.specs.declared.value.Value.TheVariants.{Whole, Object}
use Rattle.mem_bytes.proofs.Reached.{and_then_ok, part_inside, part_ok}
use Rattle.mem_bytes.proofs.Written.{BitsPut, bits_put}
use Rattle.lift_stands_accesses.proofs.Results.{accessed_ok, where_true}
use Rattle.lift_forms.specs.LawsTyping.{IsBitField}
use Rattle.rs_mean.specs.Run.{Frame}
use Rattle.rs_mean.specs.Typing.{casts}
use Rattle.rs_text.specs.declared.integer.IntegerTy.TheVariants.{U64}
use Rattle.rs_text.specs.Tree.{Ty, Integer, Pointer, Expr}
use Rattle.lift_forms.specs.BitFields.{bit_write}
use Rattle.lift_stands.specs.Stands.{Images, PlaceBelow, StandsFor}
use Rattle.lift_stands.specs.Worlds.{HeldStands}
use Rattle.lift_stands_accesses.specs.Objects.{LeftStanding}
use Rattle.lift_stands_accesses.proofs.Loads.{bits_loaded}
use Rattle.lift_stands_bits.proofs.Fields.{field_leaves}
use Rattle.mem_bytes_bits.proofs.ByBytes.{field_stored}
use Rattle.lift_forms_laws.specs.Gives.{GivesAt}
use Rattle.lift_forms_laws.specs.LawsBits.{bits_value, low_bits, GivesAlong}
use Rattle.lift_forms_laws.specs.LawsBoth.{has_sign, BitFieldLoaded, GivesMeanwhile, BitFieldStored}
use Rattle.lift_forms_laws.proofs.Bits.{reads}
use Rattle.lift_forms_laws.proofs.BitWrites.{writes}

-- ---- the value of a bit-field

-- what C has of the bits is what the crate has of them
pub value_is : (spot : Spot) (kind : Scalar) (number : ℕ) (one : Value) → field_value kind spot.width (field_of spot.bit spot.width number) ≡ Ok one → one ≡ Whole (bits_value spot (has_sign kind) number)
value_is spot (scalar_type.Whole size signed) number one e = cc
value_is spot scalar_type.Truth number one e =
    let same : one ≡ Whole (pos (field_of spot.bit spot.width number)) = cc (sym e) in
    same ∙ ap (λ n. Whole (pos n)) (sym (mod-eq_of_lt (mod-lt (number / 2 ^ spot.bit) (pow_pos spot.width))))
value_is spot scalar_type.Object number one e = cc
value_is spot scalar_type.Code number one e = cc

-- ---- what a store of C shows

abbrev stored_as : CValue → Marks → Blocks → Result CStored CWhy
stored_as value marks blocks = Ok (record { value = value; marks = marks; blocks = blocks })

stored_blocks : (value : CValue) (marks : Marks) (blocks : Blocks) (one : CStored) → stored_as value marks blocks ≡ Ok one → blocks ≡ one.blocks
stored_blocks value marks blocks one e =
    let same : record { value = value; marks = marks; blocks = blocks } ≡ one = cc in
    ap (λ s. s.blocks) same

accessed_as : (found : Result Blocks Fault) (blocks last : Blocks) → accessed found ≡ Ok blocks → blocks ≡ last → found ≡ Ok last
accessed_as found blocks last e same = accessed_ok found blocks e ∙ ap Ok same

-- it puts the low bits of the number
bits_are_put : (blocks : Blocks) (at : Ptr) (bit width : ℕ) (marks : Marks) (number : ℤ) (kind : Scalar) (one : CStored) → stored_bits blocks at bit width marks (scalar (Whole number)) kind ≡ Ok one →
    after_put_bits blocks at bit width (low_bits width number) ≡ Ok one.blocks
bits_are_put blocks at bit width marks number kind one e =
    let count = bytes_touched bit width in
    let low : ℤ → ℕ = λ n. residue n (2 ^ width) in
    let last : ℤ → Range → Blocks → Value → Result CStored CWhy = λ n range after value. Ok (record { value = scalar value; marks = with_write range marks; blocks = after }) in
    let puts : ℤ → Range → Result CStored CWhy = λ n range. and_then (accessed (after_put_bits blocks at bit width (low n))) (λ after. and_then (field_value kind width (low n)) (last n range after)) in
    let ends : ℤ → Result CStored CWhy = λ n. and_then (accessed (part_at blocks at count)) (λ _. and_then (sequenced_after marks (bits_of_field at bit width)) (puts n)) in
    let outer = where_true (is_field_place bit width) (and_then (value_of_kind kind (scalar (Whole number))) (λ new. and_then (number_in new) ends)) one e in
    let first = and_then_ok (value_of_kind kind (scalar (Whole number))) (λ new. and_then (number_in new) ends) one outer.1 in
    let kinds = where_true (is_of_kind kind (Whole number)) (Ok (Whole number)) first.0 first.1 in
    let new : Whole number ≡ first.0 = cc (kinds.1) in
    let ended : ends number ≡ Ok one = ap (λ v. and_then (number_in v) ends) new ∙ first.2 in
    let second = and_then_ok (accessed (part_at blocks at count)) (λ _. and_then (sequenced_after marks (bits_of_field at bit width)) (puts number)) one ended in
    let third = and_then_ok (sequenced_after marks (bits_of_field at bit width)) (puts number) one second.2 in
    let fourth = and_then_ok (accessed (after_put_bits blocks at bit width (low number))) (λ after. and_then (field_value kind width (low number)) (last number third.0 after)) one third.2 in
    let fifth = and_then_ok (field_value kind width (low number)) (last number third.0 fourth.0) one fourth.2 in
    accessed_as (after_put_bits blocks at bit width (low number)) fourth.0 one.blocks fourth.1 (stored_blocks (scalar fifth.0) (with_write third.0 marks) fourth.0 one fifth.2)

first_bits : (many : ℕ) (cells : List Cell) → list_all is_bits cells ≡ true → list_all is_bits (take many cells) ≡ true
first_bits zero cells are = refl
first_bits (suc many) [] are = refl
first_bits (suc many) (Bits value set ∷ others) are = first_bits many others are
first_bits (suc many) (PtrByte of index ∷ others) are = cc

-- fewer bits of it may be put too
module _ (memory after : Blocks) (at : Ptr) (bit width field many other : ℕ) (less : many ≤ width) (e : after_put_bits memory at bit width field ≡ Ok after) where
  put : BitsPut memory after at bit width field
  put = bits_put memory after at bit width field e

  abbrev fewer : ℕ
  fewer = bytes_touched bit many

  fewer_part : part_of put.block at.offset fewer ≡ Ok (take fewer put.cells)
  fewer_part =
      let part = part_ok put.block at.offset (bytes_touched bit width) put.cells put.part in
      part_inside put.block at.offset fewer (omega (arith, part.0, less)) ∙ ap Ok (sym (ap (take fewer) part.1 ∙ take-take fewer (bytes_touched bit width) (drop at.offset put.block.cells) (omega (arith, less))))

  fewer_put : (part : Blocks) × (after_put_bits memory at bit many other ≡ Ok part)
  fewer_put = (
    _,
    ap (λ slot. and_then (live_read slot (λ block. block_with_field block at.offset bit many other)) (λ block. Ok (slice_set memory at.block (Some block)))) put.live
        ∙ ap (λ r. and_then (and_then r (λ cells. and_then (with_field_in bit many other cells) (λ new. Ok (with_part put.block at.offset new)))) (λ block. Ok (slice_set memory at.block (Some block)))) fewer_part
        ∙ ap (λ r. and_then (and_then r (λ new. Ok (with_part put.block at.offset new))) (λ block. Ok (slice_set memory at.block (Some block)))) (cond-true _ _ _ (first_bits fewer put.cells put.written.bits)),
  )

-- ---- in both memories

module _ (images : Images) (frame : Frame) (world : World) (at to : Ptr) (spot : Spot) (marks : Marks) (kind : Scalar) (in_bytes : images.in_bytes ≡ true) (place : PlaceBelow images at (behind to spot.byte))
    (is : IsBitField spot) where
  pub loads : (memory : Blocks) (one : CLoaded) (base : Expr) (target : Ty) → StandsFor images memory world.held.blocks → GivesAt frame world base (Pointer target) (Object to) →
      loaded_bits memory at spot.bit spot.width marks kind ≡ Ok one → BitFieldLoaded frame world base spot kind one.value
  loads memory one base target stands gives e =
      let found = bits_loaded images memory world.held.blocks at (behind to spot.byte) marks one stands place spot.bit spot.width kind in_bytes e in
      let same = value_is spot kind (number_of found.bytes.bytes) found.one (subst (λ f. field_value kind spot.width f ≡ Ok found.one) found.bytes.same found.means) in
      record {
        number = bits_value spot (has_sign kind) (number_of found.bytes.bytes);
        is = found.is ∙ ap scalar same;
        gives = reads frame world base target to spot found.bytes.bytes (has_sign kind) is gives found.bytes.holds;
      }

  -- what gives the same beside C's memories gives it along the stores
  module _ (held : Held) (number : ℤ) (after : Blocks) (stands : HeldStands images held world.held) (put_in_c : after_put_bits held.blocks at spot.bit spot.width (low_bits spot.width number) ≡ Ok after) where
    part_stands : (many : ℕ) (part beyond : Blocks) → after_put_bits held.blocks at spot.bit many (low_bits many number) ≡ Ok part →
        after_put_bits world.held.blocks (behind to spot.byte) spot.bit many (low_bits many number) ≡ Ok beyond → LeftStanding images held world.held part beyond
    part_stands many part beyond e f =
        let low = residue_below number (2 ^ many) (pow_pos many) in
        let leaves = field_leaves images held world.held part at (behind to spot.byte) spot.bit many (low_bits many number) in_bytes stands place low e in
        let stored = field_stored world.held.blocks beyond (behind to spot.byte) spot.bit many (low_bits many number) leaves.bytes leaves.holds low f in
        let same : leaves.stored.beyond ≡ beyond = cc (sym leaves.stored.done ∙ stored) in
        subst (LeftStanding images held world.held part) same (record { stands = leaves.stored.stands; keeps = leaves.stored.keeps })

    meanwhile_along : (e : Expr) (ty : Ty) (given : Value) → GivesMeanwhile images held frame world at spot number e ty given → GivesAlong frame world to spot number e ty given
    meanwhile_along e ty given meanwhile = record {
      gives = λ many beyond less f.
          let part = fewer_put held.blocks after at spot.bit spot.width (low_bits spot.width number) many (low_bits many number) less put_in_c in
          meanwhile.gives many part.0 beyond less part.1 (part_stands many part.0 beyond part.1 f);
    }

  pub stores : (held : Held) (number : ℤ) (one : CStored) (base stored : Expr) (target ty : Ty) → HeldStands images held world.held → casts ty (Integer U64) ≡ true →
      GivesMeanwhile images held frame world at spot number base (Pointer target) (Object to) → GivesMeanwhile images held frame world at spot number stored ty (Whole number) →
      stored_bits held.blocks at spot.bit spot.width marks (scalar (Whole number)) kind ≡ Ok one → BitFieldStored images held frame world (bit_write base spot stored) one
  stores held number one base stored target ty stands is_number base_gives stored_gives e =
      let put = bits_are_put held.blocks at spot.bit spot.width marks number kind one e in
      let low = residue_below number (2 ^ spot.width) (pow_pos spot.width) in
      let leaves = field_leaves images held world.held one.blocks at (behind to spot.byte) spot.bit spot.width (low_bits spot.width number) in_bytes stands place low put in
      let done = writes frame world base stored target ty to spot number leaves.bytes is is_number leaves.holds (meanwhile_along held number one.blocks stands put base (Pointer target) (Object to) base_gives)
      (meanwhile_along held number one.blocks stands put stored ty (Whole number) stored_gives) in
      record {
        beyond = done.beyond;
        runs = done.runs;
        left = part_stands held number one.blocks stands put spot.width one.blocks done.beyond put done.put;
      }
