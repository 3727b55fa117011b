-- The record of a structure is laid out as the structure.
use Rattle.std.proofs.Common.{◌≡◌, ℕ, ◌+◌, ◌-◌, ◌*◌, ◌/◌, ◌%◌, ◌≤◌, ◌<◌, false, List, ◌∷◌, Option, None, Some, is_some, max, arith, refl, sym, ap, ◌∙◌}
use Rattle.std.specs.Int.{next_multiple_of}
use Rattle.cr_base.proofs.Layouts.{taken_grows}
use Rattle.cr_base.specs.declared.layout.Front.{Front}
use Rattle.cr_base.specs.declared.layout.Laid.{Laid}
use Rattle.cr_base.specs.declared.layout.Piece.{Piece}
use Rattle.cr_base.specs.declared.layout.Piece.TheVariants.{Plain, Bits}
use Rattle.cr_base.specs.Layout.{after, after_all, bits_start, most_bytes, no_front, spot, spots_behind, spots_of}
use Rattle.cx_core.specs.Trees.{CMember, CTy}
use Rattle.rs_items.specs.Known.{Knows}
use Rattle.rs_items.specs.Records.{FieldsWalk, member_name, no_fields, placed_member, placed_members, put_bytes, size_of, struct_end, struct_step, struct_walk, whole_bytes}
use Rattle.rs_items.specs.Types.{rust_type, type_names}
use Rattle.rs_items_rules.proofs.Parts.{Parts, bytes_behind, front, member, plain_align, plain_align_some, put_behind}
use Rattle.rs_items_rules.proofs.Parts.Parts.{no_part, plain_part, bits_part}
use Rattle.rs_items_rules.proofs.Rounds.{bits_above, same_up, up, whole_high, whole_low}
use Rattle.rs_items_rules.specs.Agree.{Agrees, Records}
use Rattle.rs_mean.specs.Layout.{front_after, laid_with}

module _ (known : Knows) (records : Records) where
  -- fields in front that take so many bytes, one behind the other
  abbrev pub FieldsTake : FieldsWalk → (taken align : ℕ) → Type 0
  FieldsTake walk taken align = front_after (laid_with records) (Some (no_front false)) walk.fields ≡ Some (front false (8 * taken) align)

  after_bytes : (taken count align : ℕ) → 0 < count → 1 ≤ align → after (front false (8 * taken) align) (Plain count 1) ≡ front false (8 * (taken + count)) align
  after_bytes taken count align some low =
      let ends : max (8 * taken) (next_multiple_of (8 * taken) (8 * 1) + 8 * count) ≡ 8 * (taken + count) = omega (arith, some) in
      let greatest : max align 1 ≡ align = omega (arith, low) in
      ap (λ n. front false n (max align 1)) ends ∙ ap (λ n. front false (8 * (taken + count)) n) greatest

  -- bytes are put behind the others
  bytes_take : (walk : FieldsWalk) (taken count align : ℕ) → FieldsTake walk taken align → 1 ≤ align → count ≤ most_bytes → FieldsTake (put_bytes walk count) (taken + count) align
  bytes_take walk taken count align fields low few =
      bytes_behind records (Some (no_front false)) walk count (front false (8 * taken) align) (front false (8 * (taken + count)) align) fields few
      (λ some. after_bytes taken count align some low)
      (λ none. let whole : 8 * taken ≡ 8 * (taken + count) = omega (arith, none) in ap (λ n. front false n align) whole)

  -- where a walk over the members of a structure stands: bit-fields reach over whole bytes
  pub record StandsAt (walk : FieldsWalk) (bits align : ℕ) : Type 0 where
    pub fields : FieldsTake walk walk.taken align
    pub due : walk.due ≡ whole_bytes bits
    pub order : walk.taken ≤ walk.due

  pub end_takes : (walk : FieldsWalk) (bits align : ℕ) → StandsAt walk bits align → 1 ≤ align → bits ≤ 8 * most_bytes → FieldsTake (struct_end walk) (whole_bytes bits) align
  unfolding struct_end
  end_takes walk bits align at low few =
      let due = at.due in
      let before = at.order in
      let count : walk.due - walk.taken ≤ most_bytes = omega (arith, due, before, few) in
      let whole : walk.taken + (walk.due - walk.taken) ≡ whole_bytes bits = omega (arith, due, before) in
      bytes_take walk walk.taken (walk.due - walk.taken) align at.fields low count ∙ ap (λ n. Some (front false (8 * n) align)) whole

  -- a plain member behind whole bytes
  after_plain : (bits align size own : ℕ) → 0 < own → after (front false (8 * whole_bytes bits) align) (Plain size own)
      ≡ front false (8 * (next_multiple_of bits (8 * own) / 8 + size)) (max align own)
  after_plain bits align size own some =
      let round = up bits own some in
      let is = round.is in
      let low = round.low in
      let same = same_up bits (whole_bytes bits) own some (whole_low bits) (whole_high bits) in
      let ends : max (8 * whole_bytes bits) (next_multiple_of (8 * whole_bytes bits) (8 * own) + 8 * size) ≡ 8 * (next_multiple_of bits (8 * own) / 8 + size)
      = omega (arith, is, low, same) in
      ap (λ n. front false n (max align own)) ends

  plain_due : (bits size own : ℕ) → 0 < own → next_multiple_of bits (8 * own) / 8 + size ≡ whole_bytes (max bits (next_multiple_of bits (8 * own) + 8 * size))
  plain_due bits size own some =
      let round = up bits own some in
      let is = round.is in
      let low = round.low in
      omega (arith, is, low)

  pub plain_within : (bits size own : ℕ) → bits ≤ max bits (next_multiple_of bits (8 * own) + 8 * size)
  plain_within bits size own = omega arith

  bits_due : (bits begins width : ℕ) → bits ≤ begins → begins / 8 + whole_bytes (begins % 8 + width) ≡ whole_bytes (max bits (begins + width))
  bits_due bits begins width low = omega (arith, low)

  whole_grows : (first second : ℕ) → first ≤ second → whole_bytes first ≤ whole_bytes second
  whole_grows first second low = omega (arith, low)

  pub later : (piece : Piece) (pieces : List Piece) (at : Front) → (after_all at (piece ∷ pieces)).bits ≤ 8 * most_bytes → (after at piece).bits ≤ 8 * most_bytes
  later piece pieces at few = let more = taken_grows pieces (after at piece) in omega (arith, few, more)

  -- a member that is no bit-field stands behind the bit-fields in front of it
  pub plain_step : (walk : FieldsWalk) (bits all align : ℕ) (name : Option (List ℕ)) (type : CTy) (own : Laid) → Agrees known (laid_with records) type own → 1 ≤ align
      → StandsAt walk bits align → (after (front false bits all) (Plain own.size own.align)).bits ≤ 8 * most_bytes
      → StandsAt (struct_step walk (placed_member known (member name type None) (spot (front false bits all) (Plain own.size own.align))))
      (after (front false bits all) (Plain own.size own.align)).bits (max align own.align)
  unfolding struct_step
  plain_step walk bits all align name type own agrees low at few =
      let begins = next_multiple_of bits (8 * own.align) in
      let grows = plain_within bits own.size own.align in
      let bytes = end_takes walk bits align at low (omega (arith, few, grows)) in
      let size = agrees.size in
      let due = plain_due bits own.size own.align agrees.aligned in
      let ends : begins / 8 + own.size ≡ begins / 8 + size_of known type = omega (arith, size) in
      record {
        fields = put_behind (laid_with records) (Some (no_front false)) (struct_end walk) (member_name name) (rust_type (type_names known) type) own
            (front false (8 * whole_bytes bits) align) bytes agrees.rust
            ∙ ap Some (after_plain bits align own.size own.align agrees.aligned) ∙ ap (λ n. Some (front false (8 * n) (max align own.align))) ends;
        due = sym ends ∙ due;
        order = omega arith;
      }

  -- a bit-field reaches over the bytes in which it stands
  pub bits_step : (walk : FieldsWalk) (bits all align : ℕ) (name : Option (List ℕ)) (type : CTy) (width size : ℕ) → StandsAt walk bits align
      → StandsAt (struct_step walk (placed_member known (member name type (Some width)) (spot (front false bits all) (Bits size width (is_some name)))))
      (after (front false bits all) (Bits size width (is_some name))).bits align
  unfolding struct_step
  bits_step walk bits all align name type width size at =
      let begins = bits_start bits (8 * size) width in
      let low = bits_above bits (8 * size) width in
      let due = bits_due bits begins width low in
      let before = at.order in
      let reach = at.due in
      let grows = whole_grows bits (max bits (begins + width)) (omega arith) in
      record { fields = at.fields; due = due; order = omega (arith, due, before, reach, grows) }

  pub struct_parts : {members : List CMember} {pieces : List Piece} → Parts known (laid_with records) members pieces → (walk : FieldsWalk) (bits all align : ℕ) → 1 ≤ align → StandsAt walk bits align
      → (after_all (front false bits all) pieces).bits ≤ 8 * most_bytes
      → StandsAt (struct_walk walk (placed_members known members (spots_behind (front false bits all) pieces))) (after_all (front false bits all) pieces).bits (plain_align align pieces)
  struct_parts no_part walk bits all align low at few = at
  struct_parts (plain_part {members} {pieces} name type own agrees others) walk bits all align low at few =
      struct_parts others (struct_step walk (placed_member known (member name type None) (spot (front false bits all) (Plain own.size own.align))))
      (after (front false bits all) (Plain own.size own.align)).bits (max all own.align) (max align own.align) (omega (arith, low))
      (plain_step walk bits all align name type own agrees low at (later (Plain own.size own.align) pieces (front false bits all) few)) few
  struct_parts (bits_part {members} {pieces} name type width size some others) walk bits all align low at few =
      struct_parts others (struct_step walk (placed_member known (member name type (Some width)) (spot (front false bits all) (Bits size width (is_some name)))))
      (after (front false bits all) (Bits size width (is_some name))).bits (after (front false bits all) (Bits size width (is_some name))).align align low
      (bits_step walk bits all align name type width size at) few

  pub begun : StandsAt no_fields 0 1
  begun = record { fields = refl; due = omega arith; order = omega arith }

  -- all fields of a structure
  pub struct_takes : {members : List CMember} {pieces : List Piece} → Parts known (laid_with records) members pieces → (after_all (no_front false) pieces).bits ≤ 8 * most_bytes
      → FieldsTake (struct_end (struct_walk no_fields (placed_members known members (spots_of false pieces)))) (whole_bytes (after_all (no_front false) pieces).bits) (plain_align 1 pieces)
  struct_takes {members} {pieces} parts few =
      end_takes (struct_walk no_fields (placed_members known members (spots_of false pieces))) (after_all (no_front false) pieces).bits (plain_align 1 pieces)
      (struct_parts parts no_fields 0 1 1 (omega arith) begun few) (plain_align_some pieces 1 (omega arith)) few
