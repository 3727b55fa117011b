-- The members of a structure or union beside how they are laid out.
use Rattle.std.proofs.Common.{◌≡◌, ℕ, ◌≤◌, ◌<◌, Bool, true, false, nat_lt, codes, if◌then◌else◌, List, [], ◌∷◌, ◌++◌, Option, None, Some, is_some, max, arith, refl, ap, ◌∙◌}
use Rattle.std.proofs.lemmas.Bool.Decides.{nat_tests}
use Rattle.cr_base.specs.declared.layout.Front.{Front}
use Rattle.cr_base.specs.declared.layout.Laid.{Laid}
use Rattle.cr_base.specs.declared.layout.Piece.{Piece}
use Rattle.cr_base.specs.declared.layout.Piece.TheVariants.{Plain, Bits}
use Rattle.cr_base.specs.Layout.{after, most_bytes}
use Rattle.cx_core.specs.Trees.{CMember, CTy}
use Rattle.rs_items.specs.Known.{Knows}
use Rattle.rs_items.specs.Records.{FieldsWalk, put_bytes, put_field}
use Rattle.rs_items_rules.specs.Agree.{Agrees, Records}
use Rattle.rs_mean.specs.Layout.{behind, even, front_after, laid_with, piece_of, repeated}
use Rattle.rs_text.specs.Tree.{Array, FieldTree, Integer, Ty}
use Rattle.rs_text.specs.declared.integer.IntegerTy.TheVariants.{U8}

abbrev pub member : Option (List ℕ) → CTy → Option ℕ → CMember
member name type bits = record { name = name; type = type; bits = bits }

pub data Parts (known : Knows) (layout : Ty → Option Laid) : List CMember → List Piece → Type 0 where
  no_part : Parts known layout [] []
  plain_part : {members : List CMember} {pieces : List Piece} (name : Option (List ℕ)) (type : CTy) (laid : Laid) → Agrees known layout type laid
      → Parts known layout members pieces → Parts known layout (member name type None ∷ members) (Plain laid.size laid.align ∷ pieces)
  bits_part : {members : List CMember} {pieces : List Piece} (name : Option (List ℕ)) (type : CTy) (width size : ℕ) → 0 < size
      → Parts known layout members pieces → Parts known layout (member name type (Some width) ∷ members) (Bits size width (is_some name) ∷ pieces)

-- so many bits, with this alignment
abbrev pub front : Bool → ℕ → ℕ → Front
front is_union bits align = record { is_union = is_union; bits = bits; align = align }

-- the greatest alignment of members that are no bit-fields
abbrev pub plain_align : ℕ → List Piece → ℕ
plain_align align [] = align
plain_align align (Plain size one ∷ pieces) = plain_align (max align one) pieces
plain_align align (Bits size width is_named ∷ pieces) = plain_align align pieces

pub plain_align_some : (pieces : List Piece) (align : ℕ) → 1 ≤ align → 1 ≤ plain_align align pieces
plain_align_some [] align some = some
plain_align_some (Plain size one ∷ pieces) align some = plain_align_some pieces (max align one) (omega (arith, some))
plain_align_some (Bits size width is_named ∷ pieces) align some = plain_align_some pieces align some

front_last : (layout : Ty → Option Laid) (begun : Option Front) (fields : List FieldTree) (one : FieldTree)
    → front_after layout begun (fields ++ one ∷ []) ≡ behind (layout one.ty) (front_after layout begun fields)
front_last layout begun [] one = refl
front_last layout begun (first ∷ fields) one = front_last layout (behind (layout first.ty) begun) fields one

-- one more field stands behind the others
pub put_behind : (layout : Ty → Option Laid) (begun : Option Front) (walk : FieldsWalk) (wanted : List ℕ) (given : Ty) (laid : Laid) (taken : Front)
    → front_after layout begun walk.fields ≡ Some taken → layout given ≡ Some laid → front_after layout begun (put_field walk wanted given).fields ≡ Some (after taken (piece_of laid))
put_behind layout begun walk wanted given laid taken fields is =
    front_last layout begun walk.fields _ ∙ ap (λ one. behind one (front_after layout begun walk.fields)) is ∙ ap (λ all. behind (Some laid) all) fields

pub bytes_laid : (count : ℕ) → 0 < count → count ≤ most_bytes → repeated count (even 1) ≡ Some (record { size = count; align = 1 })
bytes_laid count some few = grind (arith, nat_tests, some, few)

-- bytes stand behind the other fields
pub bytes_behind : (records : Records) (begun : Option Front) (walk : FieldsWalk) (count : ℕ) (taken next : Front) → front_after (laid_with records) begun walk.fields ≡ Some taken
    → count ≤ most_bytes → (0 < count → after taken (Plain count 1) ≡ next) → (count ≡ 0 → taken ≡ next) → front_after (laid_with records) begun (put_bytes walk count).fields ≡ Some next
bytes_behind records begun walk count taken next fields few put same = by_test (nat_lt 0 count) refl
  where
    told : (r : Bool) → nat_lt 0 count ≡ r
        → front_after (laid_with records) begun (put_bytes walk count).fields
        ≡ front_after (laid_with records) begun (if r then put_field walk (codes "bits") (Array (Integer U8) count) else walk).fields
    told r test = ap (λ (t : Bool). front_after (laid_with records) begun (if t then put_field walk (codes "bits") (Array (Integer U8) count) else walk).fields) test

    by_test : (r : Bool) → nat_lt 0 count ≡ r → front_after (laid_with records) begun (put_bytes walk count).fields ≡ Some next
    by_test true test =
        let some : 0 < count = grind (arith, nat_tests, test) in
        told true test
        ∙ put_behind (laid_with records) begun walk (codes "bits") (Array (Integer U8) count) (record { size = count; align = 1 }) taken fields (bytes_laid count some few)
        ∙ ap Some (put some)
    by_test false test = told false test ∙ fields ∙ ap Some (same (grind (arith, nat_tests, test)))
