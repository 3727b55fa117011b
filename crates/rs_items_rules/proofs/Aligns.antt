-- The alignment of a record is that of the structure or union.
use Rattle.std.proofs.Common.{◌≡◌, ℕ, ◌≤◌, Bool, true, false, nat_lt, ◌&&◌, if◌then◌else◌, List, [], ◌∷◌, Option, None, Some, max, arith, refl, sym, ap, ◌∙◌}
use Rattle.std.proofs.lemmas.Bool.Decides.{nat_tests}
use Rattle.cr_base.specs.declared.layout.Laid.{Laid}
use Rattle.cr_base.specs.declared.layout.Piece.{Piece}
use Rattle.cr_base.specs.declared.layout.Piece.TheVariants.{Plain, Bits}
use Rattle.cr_base.specs.Layout.{after, after_all}
use Rattle.cx_core.specs.Trees.{CMember}
use Rattle.rs_items.specs.Known.{Knows}
use Rattle.rs_items.specs.Records.{fields_align, has_named_bits, raised_to}
use Rattle.rs_items_rules.proofs.Parts.{Parts, front, plain_align}
use Rattle.rs_items_rules.proofs.Parts.Parts.{no_part, plain_part, bits_part}
use Rattle.rs_mean.specs.Layout.{raised_by}
use Rattle.rs_text.specs.Tree.{Ty}

pub rust_below : (pieces : List Piece) (is_union : Bool) (bits all align : ℕ) → align ≤ all → plain_align align pieces ≤ (after_all (front is_union bits all) pieces).align
rust_below [] is_union bits all align low = low
rust_below (Plain size own ∷ pieces) is_union bits all align low =
    rust_below pieces is_union (after (front is_union bits all) (Plain size own)).bits (max all own) (max align own) (omega (arith, low))
rust_below (Bits size width is_named ∷ pieces) is_union bits all align low =
    rust_below pieces is_union (after (front is_union bits all) (Bits size width is_named)).bits (after (front is_union bits all) (Bits size width is_named)).align align (omega (arith, low))

plain_grows : (pieces : List Piece) (align : ℕ) → align ≤ plain_align align pieces
plain_grows [] align = omega arith
plain_grows (Plain size own ∷ pieces) align = let more = plain_grows pieces (max align own) in omega (arith, more)
plain_grows (Bits size width is_named ∷ pieces) align = plain_grows pieces align

module _ {known : Knows} {layout : Ty → Option Laid} where
  pub least_below : {members : List CMember} {pieces : List Piece} → Parts known layout members pieces → (align : ℕ) → 1 ≤ align → fields_align members ≤ plain_align align pieces
  least_below no_part align low = low
  least_below (plain_part {members} {pieces} name type own agrees others) align low =
      let more = least_below others (max align own.align) (omega (arith, low)) in
      let grows = plain_grows pieces (max align own.align) in
      let least = agrees.align in
      omega (arith, more, grows, least)
  least_below (bits_part {members} {pieces} name type width size some others) align low =
      let more = least_below others align low in
      let grows = plain_grows pieces align in
      omega (arith, more, grows, low)

  -- without a named bit-field no alignment is raised
  pub same_align : {members : List CMember} {pieces : List Piece} → Parts known layout members pieces → (is_union : Bool) (bits align : ℕ) → 1 ≤ align → has_named_bits members ≡ false
      → plain_align align pieces ≡ (after_all (front is_union bits align) pieces).align
  same_align no_part is_union bits align low none = refl
  same_align (plain_part name type own agrees others) is_union bits align low none =
      same_align others is_union (after (front is_union bits align) (Plain own.size own.align)).bits (max align own.align) (omega (arith, low)) none
  same_align (bits_part {members} {pieces} None type width size some others) is_union bits align low none =
      let greatest : max align 1 ≡ align = omega (arith, low) in
      same_align others is_union (after (front is_union bits align) (Bits size width false)).bits align low none
      ∙ ap (λ n. (after_all (front is_union (after (front is_union bits align) (Bits size width false)).bits n) pieces).align) (sym greatest)
  same_align (bits_part (Some name) type width size some others) is_union bits align low none = cc

-- with `align(N)` where it stands
pub raised_align : (members : List CMember) (is_union : Bool) (bits own align : ℕ) → own ≤ align → fields_align members ≤ own → (has_named_bits members ≡ false → own ≡ align)
    → raised_by (raised_to align members) (front is_union bits own) ≡ front is_union bits align
raised_align members is_union bits own align low least same = by_named (has_named_bits members) refl (nat_lt (fields_align members) align) refl
  where
    by_named : (named : Bool) → has_named_bits members ≡ named → (less : Bool) → nat_lt (fields_align members) align ≡ less
        → raised_by (raised_to align members) (front is_union bits own) ≡ front is_union bits align
    by_named false none less test =
        ap (λ t. raised_by (if t && nat_lt (fields_align members) align then Some align else None) (front is_union bits own)) none ∙ ap (front is_union bits) (same none)
    by_named true named true test =
        let greatest : max align own ≡ align = omega (arith, low) in
        ap (λ t. raised_by (if t && nat_lt (fields_align members) align then Some align else None) (front is_union bits own)) named
        ∙ ap (λ t. raised_by (if t then Some align else None) (front is_union bits own)) test ∙ ap (front is_union bits) greatest
    by_named true named false test =
        let enough : own ≡ align = grind (arith, nat_tests, test, low, least) in
        ap (λ t. raised_by (if t && nat_lt (fields_align members) align then Some align else None) (front is_union bits own)) named
        ∙ ap (λ t. raised_by (if t then Some align else None) (front is_union bits own)) test ∙ ap (front is_union bits) enough
