-- The record of a union is laid out as the union.
use Rattle.std.proofs.Common.{◌≡◌, ℕ, ◌+◌, ◌*◌, ◌≤◌, Bool, true, List, ◌∷◌, Option, None, Some, is_some, max, arith, refl, ap, ◌∙◌}
use Rattle.cr_base.proofs.Layouts.{taken_grows}
use Rattle.cr_base.specs.declared.layout.Front.{Front}
use Rattle.cr_base.specs.declared.layout.Laid.{Laid}
use Rattle.cr_base.specs.declared.layout.Piece.{Piece}
use Rattle.cr_base.specs.declared.layout.Piece.TheVariants.{Plain, Bits}
use Rattle.cr_base.specs.Layout.{after, after_all, most_bytes, no_front, spot, spots_behind, spots_of}
use Rattle.cx_core.specs.Trees.{CMember, CTy}
use Rattle.rs_items.specs.Known.{Knows}
use Rattle.rs_items.specs.Records.{FieldsWalk, member_name, no_fields, placed_member, placed_members, put_bytes, union_step, union_walk, whole_bytes}
use Rattle.rs_items.specs.Types.{rust_type, type_names}
use Rattle.rs_items_rules.proofs.Parts.{Parts, bytes_behind, front, member, plain_align, put_behind}
use Rattle.rs_items_rules.proofs.Parts.Parts.{no_part, plain_part, bits_part}
use Rattle.rs_items_rules.specs.Agree.{Agrees, Records}
use Rattle.rs_mean.specs.Layout.{front_after, laid_with}

module _ (known : Knows) (records : Records) where
  -- the fields of a union take the whole bytes of its members
  abbrev pub UnionTakes : FieldsWalk → (bits align : ℕ) → Type 0
  UnionTakes walk bits align = front_after (laid_with records) (Some (no_front true)) walk.fields ≡ Some (front true (8 * whole_bytes bits) align)

  pub bits_step : (walk : FieldsWalk) (bits all align width size : ℕ) (is_named : Bool) → UnionTakes walk bits align → 1 ≤ align
      → (after (front true bits all) (Bits size width is_named)).bits ≤ 8 * most_bytes → UnionTakes (put_bytes walk (whole_bytes width)) (max bits (0 + width)) align
  bits_step walk bits all align width size is_named fields low few =
      bytes_behind records (Some (no_front true)) walk (whole_bytes width) (front true (8 * whole_bytes bits) align) (front true (8 * whole_bytes (max bits (0 + width))) align) fields
      (omega (arith, few))
      (λ some.
      let ends : max (8 * whole_bytes bits) (0 + 8 * whole_bytes width) ≡ 8 * whole_bytes (max bits (0 + width)) = omega arith in
      let greatest : max align 1 ≡ align = omega (arith, low) in
      ap (λ n. front true n (max align 1)) ends ∙ ap (λ n. front true (8 * whole_bytes (max bits (0 + width))) n) greatest)
      (λ none. let whole : 8 * whole_bytes bits ≡ 8 * whole_bytes (max bits (0 + width)) = omega (arith, none) in ap (λ n. front true n align) whole)

  pub plain_step : (walk : FieldsWalk) (bits align : ℕ) (name : Option (List ℕ)) (type : CTy) (own : Laid) → Agrees known (laid_with records) type own → UnionTakes walk bits align
      → UnionTakes (union_step walk (placed_member known (member name type None) (spot (front true bits align) (Plain own.size own.align)))) (max bits (0 + 8 * own.size)) (max align own.align)
  plain_step walk bits align name type own agrees fields =
      let ends : max (8 * whole_bytes bits) (0 + 8 * own.size) ≡ 8 * whole_bytes (max bits (0 + 8 * own.size)) = omega arith in
      put_behind (laid_with records) (Some (no_front true)) walk (member_name name) (rust_type (type_names known) type) own (front true (8 * whole_bytes bits) align) fields agrees.rust
      ∙ ap (λ n. Some (front true n (max align own.align))) ends

  pub later : (piece : Piece) (pieces : List Piece) (at : Front) → (after_all at (piece ∷ pieces)).bits ≤ 8 * most_bytes → (after at piece).bits ≤ 8 * most_bytes
  later piece pieces at few = let more = taken_grows pieces (after at piece) in omega (arith, few, more)

  union_parts : {members : List CMember} {pieces : List Piece} → Parts known (laid_with records) members pieces → (walk : FieldsWalk) (bits all align : ℕ) → 1 ≤ align → UnionTakes walk bits align
      → (after_all (front true bits all) pieces).bits ≤ 8 * most_bytes
      → UnionTakes (union_walk walk (placed_members known members (spots_behind (front true bits all) pieces))) (after_all (front true bits all) pieces).bits (plain_align align pieces)
  union_parts no_part walk bits all align low at few = at
  union_parts (plain_part {members} {pieces} name type own agrees others) walk bits all align low at few =
      union_parts others (union_step walk (placed_member known (member name type None) (spot (front true bits all) (Plain own.size own.align))))
      (max bits (0 + 8 * own.size)) (max all own.align) (max align own.align) (omega (arith, low)) (plain_step walk bits align name type own agrees at) few
  union_parts (bits_part {members} {pieces} name type width size some others) walk bits all align low at few =
      union_parts others (put_bytes walk (whole_bytes width)) (max bits (0 + width)) (after (front true bits all) (Bits size width (is_some name))).align align low
      (bits_step walk bits all align width size (is_some name) at low (later (Bits size width (is_some name)) pieces (front true bits all) few)) few

  -- all fields of a union
  pub union_takes : {members : List CMember} {pieces : List Piece} → Parts known (laid_with records) members pieces → (after_all (no_front true) pieces).bits ≤ 8 * most_bytes
      → UnionTakes (union_walk no_fields (placed_members known members (spots_of true pieces))) (after_all (no_front true) pieces).bits (plain_align 1 pieces)
  union_takes parts few = union_parts parts no_fields 0 1 1 (omega arith) refl few
