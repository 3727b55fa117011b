-- While the members of a record that isn't too large are laid out, none of its fronts is.
use Rattle.std.proofs.Common.{◌≡◌, ℕ, suc, ◌*◌, ◌<◌, ◌≤◌, nat_le, Bool, true, false, List, [], ◌∷◌, length, get_or, drop, drop-cons, None, Some, IsSome, All, refl, sym, ap, ◌∙◌, arith, if◌then◌else◌, max, subst}
use Rattle.std.proofs.lemmas.Bool.Decides.{nat_tests}
use Rattle.std.proofs.lemmas.List.Elements.{All-get_or, All-head, All-tail}
use Rattle.cx_layout.specs.Rows.{IsFine}
use Rattle.cr_base.specs.declared.layout.Front.{Front}
use Rattle.cr_base.specs.declared.layout.Laid.{Laid}
use Rattle.cr_base.specs.declared.layout.Piece.{Piece}
use Rattle.cr_base.specs.declared.layout.Piece.TheVariants.{Plain, Bits}
use Rattle.cr_base.specs.Layout.{most_bytes, align_of, laid_of, laid_record, no_front, after, after_all, IsPiece, IsFront}
use Rattle.cr_base.proofs.Layouts.{stays_too_large, taken_grows, align_grows}

-- a record that isn't too large has no more bits than the most bytes have
not_some : (found : Laid) → most_bytes < found.size → IsSome (if nat_le found.size most_bytes then Some found else None) → ⊥
not_some found large some =
    let above : nat_le found.size most_bytes ≡ false = grind (arith, nat_tests) in
    let none : IsSome {T = Laid} None = subst (λ b. IsSome (if b then Some found else None)) above some in
    cc

fits_by : (is_union : Bool) (pieces : List Piece) (b : Bool) → nat_le (after_all (no_front is_union) pieces).bits (8 * most_bytes) ≡ b → IsSome (laid_record is_union pieces) → (after_all (no_front is_union) pieces).bits ≤ 8 * most_bytes
fits_by is_union pieces true is some = grind (arith, nat_tests)
fits_by is_union pieces false is some =
    let above : 8 * most_bytes < (after_all (no_front is_union) pieces).bits = grind (arith, nat_tests) in
    absurd (not_some (laid_of is_union pieces)
    (stays_too_large [] (after_all (no_front is_union) pieces) (omega (arith, align_grows pieces (no_front is_union))) above) some)

pub fits_bits : (is_union : Bool) (pieces : List Piece) → IsSome (laid_record is_union pieces) → (after_all (no_front is_union) pieces).bits ≤ 8 * most_bytes
fits_bits is_union pieces some = fits_by is_union pieces (nat_le (after_all (no_front is_union) pieces).bits (8 * most_bytes)) refl some

piece_align : (piece : Piece) → IsPiece piece → align_of piece ≤ most_bytes
piece_align (Plain size align) is = is.2
piece_align (Bits size width true) is = omega (arith, is.1)
piece_align (Bits size width false) is = omega arith

pub front_stays : (is_union : Bool) (pieces : List Piece) (index : ℕ) (front next : Front) (any : Piece) → index < length pieces → All IsPiece pieces → IsSome (laid_record is_union pieces) → IsFront front → after_all front (drop index pieces) ≡ after_all (no_front is_union) pieces → next ≡ after front (get_or pieces index any) → IsFront next
front_stays is_union pieces index front next any within all some fine left step =
    let all_is : after_all next (drop (suc index) pieces) ≡ after_all (no_front is_union) pieces =
    ap (λ f. after_all f (drop (suc index) pieces)) step ∙ sym (ap (after_all front) (drop-cons pieces index any within)) ∙ left in
    let bits : next.bits ≤ 8 * most_bytes =
    omega (arith, taken_grows (drop (suc index) pieces) next, ap (λ f. f.bits) all_is, fits_bits is_union pieces some) in
    let align : next.align ≡ max front.align (align_of (get_or pieces index any)) = ap (λ f. f.align) step in
    (bits, omega (arith, align), omega (arith, align, piece_align (get_or pieces index any) (All-get_or IsPiece pieces index any within all)))

after_all_align : (pieces : List Piece) (front : Front) → All IsPiece pieces → front.align ≤ most_bytes → (after_all front pieces).align ≤ most_bytes
after_all_align [] front all fine = fine
after_all_align (one ∷ others) front all fine =
    after_all_align others (after front one) (All-tail IsPiece one others all)
    (omega (arith, piece_align one (All-head IsPiece one others all)))

some_laid_by : (found wanted : Laid) (b : Bool) → nat_le found.size most_bytes ≡ b → (if b then Some found else None) ≡ Some wanted → (found ≡ wanted) × (wanted.size ≤ most_bytes)
some_laid_by found wanted true is same =
    let e : found ≡ wanted = cc in
    let small : found.size ≤ most_bytes = grind (arith, nat_tests) in
    (e, subst (λ l. l.size ≤ most_bytes) e small)
some_laid_by found wanted false is same = absurd cc

some_laid : (found wanted : Laid) → (if nat_le found.size most_bytes then Some found else None) ≡ Some wanted → (found ≡ wanted) × (wanted.size ≤ most_bytes)
some_laid found wanted same = some_laid_by found wanted (nat_le found.size most_bytes) refl same

-- a record that is laid out isn't too large, and has an alignment
pub fine_laid : (is_union : Bool) (pieces : List Piece) (wanted : Laid) → All IsPiece pieces → laid_record is_union pieces ≡ Some wanted → IsFine wanted
fine_laid is_union pieces wanted all same =
    let is = some_laid (laid_of is_union pieces) wanted same in
    let e : (after_all (no_front is_union) pieces).align ≡ wanted.align = ap (λ l. l.align) is.0 in
    (is.1, omega (arith, e, align_grows pieces (no_front is_union)), omega (arith, e, after_all_align pieces (no_front is_union) all (omega arith)))
