-- Records that have no row, and bit-fields that fit.
use Rattle.std.proofs.Common.{◌≡◌, ℕ, ◌<◌, Bool, true, false, nat_le, ◌&&◌, is_some, if◌then◌else◌, List, [], ◌∷◌, Option, None, Some, IfSome, option_map, refl, sym, ap, arith}
use Rattle.std.proofs.lemmas.Bool.Decides.{nat_tests}
use Rattle.std.specs.Option.{option_and_then}
use Rattle.cr_base.specs.declared.layout.Laid.{Laid}
use Rattle.cr_base.specs.declared.layout.Piece.{Piece}
use Rattle.cr_base.specs.Layout.{most_bytes, laid_of, spots_of}
use Rattle.cx_core.specs.Layouts.{CLayouts, CRow, whole_extent, piece, put_front, pieces_of, row_of_pieces, row_of}
use Rattle.cx_core.specs.Trees.{CTyForm, void, basic, enum_type, pointer, array, record_type, function, form_of_type, CMember, CRecord}
use Rattle.cx_layout.specs.Bits.{is_wide_enough, bits_fit, has_fitting_bits}
use Rattle.cx_layout.specs.Building.{are_complete}
use Rattle.cx_layout.specs.Calls.{IsTooLarge, IsWideEnough, HasFittingBits}

-- ---- members that aren't complete

put_none : (found : Option Laid) (one : CMember) (others : Option (List Piece)) (rest : Bool) →
    (is_some found && rest) ≡ false → (rest ≡ false → others ≡ None) → put_front (option_map (piece one) found) others ≡ None
put_none None one others rest e next = refl
put_none (Some laid) one others rest e next = ap (option_map (λ pieces. piece one laid ∷ pieces)) (next e)

no_pieces : (layouts : CLayouts) (members : List CMember) → are_complete layouts members ≡ false → pieces_of layouts members ≡ None
no_pieces layouts [] e = absurd cc
no_pieces layouts (first ∷ others) e =
    put_none (whole_extent layouts first.type) first (pieces_of layouts others) (are_complete layouts others) e (no_pieces layouts others)

pub incomplete_row : (layouts : CLayouts) (one : CRecord) → are_complete layouts one.members ≡ false → false ≡ is_some (row_of layouts one)
incomplete_row layouts one e = ap (λ pieces. is_some (option_and_then (row_of_pieces one.is_union) pieces)) (sym (no_pieces layouts one.members e))

-- ---- records that are too large

over_most : (size : ℕ) → most_bytes < size → nat_le size most_bytes ≡ false
over_most size over = grind (arith, nat_tests)

large_row : (is_union : Bool) (pieces : Option (List Piece)) → IfSome (option_map (laid_of is_union) pieces) (λ laid. most_bytes < laid.size) →
    false ≡ is_some (option_and_then (row_of_pieces is_union) pieces)
large_row is_union None over = refl
large_row is_union (Some pieces) over =
    ap (λ within. is_some {T = CRow} (option_map (λ laid. record { laid = laid; spots = spots_of is_union pieces }) (if within then Some (laid_of is_union pieces) else None)))
    (sym (over_most (laid_of is_union pieces).size over))

pub too_large_row : (layouts : CLayouts) (one : CRecord) → IsTooLarge layouts one → false ≡ is_some (row_of layouts one)
too_large_row layouts one large = large_row one.is_union (pieces_of layouts one.members) large.1

-- ---- bit-fields that fit

wide_enough : (form : CTyForm) (width : ℕ) → is_wide_enough form width ≡ true → IsWideEnough form width
wide_enough void width e = absurd cc
wide_enough (basic which) width e = grind (arith, nat_tests, e)
wide_enough (enum_type number) width e = grind (arith, nat_tests, e)
wide_enough (pointer to) width e = absurd cc
wide_enough (array element length) width e = absurd cc
wide_enough (record_type number) width e = absurd cc
wide_enough (function result params variadic) width e = absurd cc

bits_do : (form : CTyForm) (bits : Option ℕ) → bits_fit form bits ≡ true → IfSome bits (IsWideEnough form)
bits_do form None e = tt
bits_do form (Some width) e = wide_enough form width e

pub member_fits : (one : CMember) → has_fitting_bits one ≡ true → HasFittingBits one
member_fits one e = bits_do (form_of_type one.type) one.bits e
