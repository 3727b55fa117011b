-- The members of a record, one behind the other.
use Rattle.std.proofs.Common.{◌≡◌, ℕ, suc, ◌+◌, ◌*◌, ◌<◌, Bool, List, [], ◌∷◌, ◌++◌, length, get_or, drop, drop-cons, map, Option, None, Some, IsSome, IfSome, option_map, All, refl, sym, ap, ◌∙◌, arith, add-one, append_assoc, subst}
use Rattle.std.proofs.lemmas.List.{get_or-map, drop-map, length-map}
use Rattle.std.proofs.lemmas.List.Elements.{All-get_or, All-drop, All-head, All-tail}
use Rattle.cr_base.specs.declared.layout.Front.{Front}
use Rattle.cr_base.specs.declared.layout.Laid.{Laid}
use Rattle.cr_base.specs.declared.layout.Piece.{Piece}
use Rattle.cr_base.specs.declared.layout.Piece.TheVariants.{Plain, Bits}
use Rattle.cr_base.specs.Layout.{most_bytes, laid, laid_of, no_front, after, after_all}
use Rattle.cr_base.proofs.Layouts.{stays_too_large, align_grows}
use Rattle.cx_core.specs.Layouts.{CLayouts, piece, piece_of, pieces_of, put_front, whole_extent}
use Rattle.cx_core.specs.Trees.{CMember, CRecord}
use Rattle.cx_layout.specs.Calls.{IsMemberComplete, IsTooLarge, record_extent}
use Rattle.cx_layout.specs.Rows.{IsLarge, IsLargePiece, HasLarge}

-- some pieces, and then those that are left
abbrev pub with_pieces : List Piece → Option (List Piece) → Option (List Piece)
with_pieces front left = option_map (λ pieces. front ++ pieces) left

moved : (front : List Piece) (one : Piece) (left : Option (List Piece)) → with_pieces front (put_front (Some one) left) ≡ with_pieces (front ++ one ∷ []) left
moved front one None = refl
moved front one (Some pieces) = ap (λ p. Some p) (sym (append_assoc front (one ∷ []) pieces))

module _ {X : Type 0} (view : X → CMember) (layouts : CLayouts) (members : List X) (index : ℕ) (total : Option (List Piece)) where
  abbrev left_at : ℕ → Option (List Piece)
  left_at k = pieces_of layouts (map view (drop k members))

  at_member : (member : X) → index < length members → member ≡ get_or members index member → left_at index ≡ put_front (piece_of layouts (view member)) (left_at (index + 1))
  at_member member within is =
      rw (add-one, drop-cons members index member within) (ap (λ m. put_front (piece_of layouts (view m)) (pieces_of layouts (map view (drop (suc index) members)))) (sym is))

  pub pieces_next : (front : List Piece) (member : X) (one : Piece) → index < length members → member ≡ get_or members index member → piece_of layouts (view member) ≡ Some one → with_pieces front (left_at index) ≡ total → with_pieces (front ++ one ∷ []) (left_at (index + 1)) ≡ total
  pieces_next front member one within is piece left =
      sym (moved front one (left_at (index + 1))) ∙ ap (λ p. with_pieces front (put_front p (left_at (index + 1)))) (sym piece)
      ∙ sym (ap (with_pieces front) (at_member member within is)) ∙ left

-- what holds of every member holds of the one at an index
pub member_has : {X : Type 0} (view : X → CMember) (members : List X) (index : ℕ) (P : CMember → Type 0) (member : X) → index < length members → member ≡ get_or members index member → All P (map view members) → P (view member)
member_has view members index P member within is all =
    let e : get_or (map view members) index (view member) ≡ view member =
    get_or-map view members index member (view member) within ∙ ap view (sym is) in
    let size : length (map view members) ≡ length members = simp length-map in
    subst P e (All-get_or P (map view members) index (view member) (omega arith) all)

complete_piece : (layouts : CLayouts) (one : CMember) (o : Option Laid) → whole_extent layouts one.type ≡ o → IsSome o → (found : Piece) × (piece_of layouts one ≡ Some found)
complete_piece layouts one None same some = absurd cc
complete_piece layouts one (Some laid) same some = (piece one laid, ap (option_map (piece one)) same)

complete_pieces : (layouts : CLayouts) (members : List CMember) → All (IsMemberComplete layouts) members → (pieces : List Piece) × (pieces_of layouts members ≡ Some pieces)
complete_pieces layouts [] all = ([], refl)
complete_pieces layouts (one ∷ others) all =
    let first = complete_piece layouts one (whole_extent layouts one.type) refl (All-head (IsMemberComplete layouts) one others all) in
    let rest = complete_pieces layouts others (All-tail (IsMemberComplete layouts) one others all) in
    (first.0 ∷ rest.0, ap (λ p. put_front p (pieces_of layouts others)) first.1 ∙ ap (put_front (Some first.0)) rest.1)

large_at : (found : Option Piece) → IsLargePiece found → (one : Piece) × (found ≡ Some one) × IsLarge one
large_at None is = absurd (let h = is.0 in cc)
large_at (Some one) is = (one, refl, is.1)

module _ {X : Type 0} (view : X → CMember) (layouts : CLayouts) (members : List X) (index : ℕ) (total : Option (List Piece)) where
  pub has_large : (front : List Piece) (member : X) → index < length members → member ≡ get_or members index member → All (IsMemberComplete layouts) (map view members) → IsLargePiece (piece_of layouts (view member)) → with_pieces front (left_at view layouts members index total index) ≡ total → HasLarge total
  has_large front member within is all large left =
      let found = large_at (piece_of layouts (view member)) large in
      let rest_all : All (IsMemberComplete layouts) (map view (drop (index + 1) members)) =
      subst (All (IsMemberComplete layouts)) (drop-map view (index + 1) members) (All-drop (IsMemberComplete layouts) (index + 1) (map view members) all) in
      let rest = complete_pieces layouts (map view (drop (index + 1) members)) rest_all in
      record {
        front = front;
        one = found.0;
        behind = rest.0;
        found_is = sym left ∙ ap (with_pieces front) (at_member view layouts members index total member within is)
            ∙ ap (λ p. with_pieces front (put_front p (left_at view layouts members index total (index + 1)))) found.1
            ∙ ap (λ p. with_pieces front (put_front (Some found.0) p)) rest.1;
        large = found.2;
      }

-- ---- a member that is too large makes its record so

after_all-append : (first second : List Piece) (front : Front) → after_all front (first ++ second) ≡ after_all (after_all front first) second
after_all-append [] second front = refl
after_all-append (one ∷ others) second front = after_all-append others second (after front one)

large_front : (front : Front) (one : Piece) → IsLarge one → 8 * most_bytes < (after front one).bits
large_front front (Plain size align) large = omega (arith, large)
large_front front (Bits size width is_named) large = absurd large

aligned : (front : Front) (one : Piece) → 0 < front.align → 0 < (after front one).align
aligned front one is = omega arith

pub large_laid : (is_union : Bool) (front behind : List Piece) (one : Piece) → IsLarge one → most_bytes < (laid_of is_union (front ++ one ∷ behind)).size
large_laid is_union front behind one large =
    let start_front = after_all (no_front is_union) front in
    let e : after_all (no_front is_union) (front ++ one ∷ behind) ≡ after_all (after start_front one) behind = after_all-append front (one ∷ behind) (no_front is_union) in
    let some_align : 0 < start_front.align = omega (arith, align_grows front (no_front is_union)) in
    subst (λ f. most_bytes < (laid f).size) (sym e)
    (stays_too_large behind (after start_front one) (aligned start_front one some_align) (large_front start_front one large))

too_large_by : (layouts : CLayouts) (one : CRecord) (found : Option (List Piece)) → pieces_of layouts one.members ≡ found → HasLarge found → IsTooLarge layouts one
too_large_by layouts one found same has =
    let e : record_extent layouts one ≡ Some (laid_of one.is_union (has.front ++ has.one ∷ has.behind)) =
    ap (option_map (laid_of one.is_union)) (same ∙ has.found_is) in
    (subst IsSome (sym e) refl, subst (λ o. IfSome o (λ laid. most_bytes < laid.size)) (sym e) (large_laid one.is_union has.front has.behind has.one has.large))

pub large_is_too_large : (layouts : CLayouts) (one : CRecord) → HasLarge (pieces_of layouts one.members) → IsTooLarge layouts one
large_is_too_large layouts one has = too_large_by layouts one (pieces_of layouts one.members) refl has
