-- The alignments of the types of a linked program are 1, 2, 4 or 8 bytes (ISO C99, 6.2.5, 6.7.2.1): those of scalars are, and a structure or union
-- has the greatest of its members.
use Rattle.std.proofs.Common.{◌≡◌, ℕ, zero, suc, ◌/◌, ◌<◌, nat_le, max, Bool, true, false, if◌then◌else◌, List, [], ◌∷◌, length, Option, None, Some, slice_get, All, is_some, IfSome, refl, sym, ap, ◌∙◌, subst, arith}
use Rattle.std.proofs.lemmas.List.Elements.{All-nil, All-cons}
use Rattle.std.proofs.lemmas.Bool.{leb-true}
use Rattle.std.proofs.lemmas.Bool.Decides.{nat_tests}
use Rattle.cr_base.specs.declared.layout.Front.{Front}
use Rattle.cr_base.specs.declared.layout.Laid.{Laid}
use Rattle.cr_base.specs.declared.layout.Piece.{Piece}
use Rattle.cr_base.specs.declared.layout.Piece.TheVariants.{Plain, Bits}
use Rattle.cr_base.specs.Layout.{most_bytes, align_of, no_front, after, after_all, laid_of, laid_record, spots_of}
use Rattle.cx_core.specs.Conversions.{width_of_basic, IsIntegerType}
use Rattle.cx_core.specs.declared.ty.Basic.{Basic}
use Rattle.cx_core.specs.declared.ty.Basic.TheVariants.{Truth, Char, SignedChar, UnsignedChar, Short, UnsignedShort, Int, Unsigned, Long, UnsignedLong, LongLong, UnsignedLongLong}
use Rattle.cx_core.specs.Layouts.{CLayouts, CRow, row_at, array_extent, whole_extent, piece, piece_of, pieces_of, put_front, row_of, row_of_pieces, passes, completed_count, layouts_of}
use Rattle.cx_core.specs.Trees.{CTy, ty, void, basic, enum_type, pointer, array, record_type, function, CMember, CRecord, CTypes}
use Rattle.cx_core.specs.ValidTypes.{AreTypes, IsBitFieldOf, member_of}
use Rattle.cx_layout.proofs.Builds.{layouts_are}
use Rattle.cx_layout.proofs.Passes.{passes_none, row_at-pass}
use Rattle.cx_layout.specs.Calls.{record_at}
use Rattle.cx_typed_work.proofs.Fields.{member_in}
use Rattle.cx_typed_work.proofs.Rows.{then_found, map_found, some_same, HasWholeBits}
use Rattle.mem_bytes.specs.Calls.{IsAlignment}

-- ---- scalars

basic_aligned : (which : Basic) → IsAlignment (width_of_basic which / 8)
basic_aligned Truth = refl
basic_aligned Char = refl
basic_aligned SignedChar = refl
basic_aligned UnsignedChar = refl
basic_aligned Short = refl
basic_aligned UnsignedShort = refl
basic_aligned Int = refl
basic_aligned Unsigned = refl
basic_aligned Long = refl
basic_aligned UnsignedLong = refl
basic_aligned LongLong = refl
basic_aligned UnsignedLongLong = refl

-- an integer type is as aligned as it is large
integer_aligned : (types : CTypes) (layouts : CLayouts) (type : CTy) (laid : Laid) → IsIntegerType types type → whole_extent layouts type ≡ Some laid → IsAlignment laid.size
integer_aligned types layouts (ty (basic which) is_const) laid whole is = subst (λ (one : Laid). IsAlignment one.size) (some_same _ laid is) (basic_aligned which)
integer_aligned types layouts (ty (enum_type number) is_const) laid whole is = subst (λ (one : Laid). IsAlignment one.size) (some_same _ laid is) refl
integer_aligned types layouts (ty void is_const) laid whole is = absurd cc
integer_aligned types layouts (ty (pointer to) is_const) laid whole is = absurd cc
integer_aligned types layouts (ty (array element length) is_const) laid whole is = absurd cc
integer_aligned types layouts (ty (record_type number) is_const) laid whole is = absurd cc
integer_aligned types layouts (ty (function result params variadic) is_const) laid whole is = absurd cc

-- ---- types, where the records that are laid out are aligned

array_aligned : (length : Option ℕ) (found : Option Laid) (laid : Laid) → ((inner : Laid) → found ≡ Some inner → IsAlignment inner.align) → array_extent length found ≡ Some laid → IsAlignment laid.align
array_aligned None found laid inner is = absurd cc
array_aligned (Some zero) found laid inner is = absurd cc
array_aligned (Some (suc n)) None laid inner is = absurd cc
array_aligned (Some (suc n)) (Some one) laid inner is = subst (λ (l : Laid). IsAlignment l.align) (some_same _ laid is) (inner one refl)

bits_aligned : (size width : ℕ) (is_named : Bool) → IsAlignment size → IsAlignment (align_of (Bits size width is_named))
bits_aligned size width true is = is
bits_aligned size width false is = refl

abbrev AreAlignedRows : CLayouts → Type 0
AreAlignedRows layouts = (number : ℕ) (row : CRow) → row_at layouts number ≡ Some row → IsAlignment row.laid.align

-- a member asks for an alignment of its record
abbrev IsAlignedPiece : Piece → Type 0
IsAlignedPiece one = IsAlignment (align_of one)

module _ (layouts : CLayouts) (rows : AreAlignedRows layouts) where
  extent_aligned : (type : CTy) (laid : Laid) → whole_extent layouts type ≡ Some laid → IsAlignment laid.align
  extent_aligned (ty (basic which) is_const) laid is = subst (λ (l : Laid). IsAlignment l.align) (some_same _ laid is) (basic_aligned which)
  extent_aligned (ty (enum_type number) is_const) laid is = subst (λ (l : Laid). IsAlignment l.align) (some_same _ laid is) refl
  extent_aligned (ty (pointer to) is_const) laid is = subst (λ (l : Laid). IsAlignment l.align) (some_same _ laid is) refl
  extent_aligned (ty (array element length) is_const) laid is =
      array_aligned length (whole_extent layouts element) laid (λ inner held. extent_aligned element inner held) is
  extent_aligned (ty (record_type number) is_const) laid is =
      let found = map_found (λ (row : CRow). row.laid) (row_at layouts number) laid is in
      subst (λ (l : Laid). IsAlignment l.align) found.2 (rows number found.0 found.1)
  extent_aligned (ty void is_const) laid is = absurd cc
  extent_aligned (ty (function result params variadic) is_const) laid is = absurd cc

  module _ (types : CTypes) where
    piece_aligned : (one : CMember) (laid : Laid) (bits : Option ℕ) → IfSome bits (λ width. IsIntegerType types one.type) → whole_extent layouts one.type ≡ Some laid
        → IsAlignedPiece (elim bits as (λ _. Piece) [ None ↦ Plain laid.size laid.align | Some width ↦ Bits laid.size width (is_some one.name) ])
    piece_aligned one laid None whole is = extent_aligned one.type laid is
    piece_aligned one laid (Some width) whole is = bits_aligned laid.size width (is_some one.name) (integer_aligned types layouts one.type laid whole is)

    front_aligned : (first : CMember) (others : List CMember) (pieces : List Piece) → HasWholeBits types first
        → ((rest : List Piece) → pieces_of layouts others ≡ Some rest → All IsAlignedPiece rest)
        → (one : Option Piece) (rest : Option (List Piece)) → piece_of layouts first ≡ one → pieces_of layouts others ≡ rest → put_front one rest ≡ Some pieces → All IsAlignedPiece pieces
    front_aligned first others pieces whole later None rest a b found = absurd cc
    front_aligned first others pieces whole later (Some one) None a b found = absurd cc
    front_aligned first others pieces whole later (Some one) (Some rest) a b found =
        let inner = map_found (piece first) (whole_extent layouts first.type) one a in
        subst (All IsAlignedPiece) (some_same (one ∷ rest) pieces found)
        (All-cons IsAlignedPiece one rest (subst IsAlignedPiece inner.2 (piece_aligned first inner.0 first.bits whole inner.1)) (later rest b))

    pieces_aligned : (members : List CMember) (pieces : List Piece) → ((index : ℕ) (one : CMember) → slice_get members index ≡ Some one → HasWholeBits types one)
        → pieces_of layouts members ≡ Some pieces → All IsAlignedPiece pieces
    pieces_aligned [] pieces whole is = subst (All IsAlignedPiece) (some_same [] pieces is) (All-nil IsAlignedPiece)
    pieces_aligned (first ∷ others) pieces whole is =
        front_aligned first others pieces (whole 0 first refl) (λ rest held. pieces_aligned others rest (λ index. whole (suc index)) held)
        (piece_of layouts first) (pieces_of layouts others) refl refl is

-- ---- records

-- the greater of two numbers is one of them
not_least : (a b : ℕ) → nat_le a b ≡ false → b < a
not_least a b e = grind (arith, nat_tests)

either_max : (P : ℕ → Type 0) (a b : ℕ) → P a → P b → P (max a b)
either_max P a b p q = by (nat_le a b) refl
  where
    by : (test : Bool) → nat_le a b ≡ test → P (max a b)
    by true e = subst P (omega (arith, leb-true a b e)) q
    by false e = subst P (omega (arith, not_least a b e)) p

all_aligned : (pieces : List Piece) (front : Front) → IsAlignment front.align → All IsAlignedPiece pieces → IsAlignment (after_all front pieces).align
all_aligned [] front is are = is
all_aligned (first ∷ others) front is are =
    all_aligned others (after front first) (either_max IsAlignment front.align (align_of first) is (are 0 first (omega arith))) (λ k d within. are (suc k) d (omega (arith, within)))

abbrev row_with : Bool → List Piece → Laid → CRow
row_with is_union pieces found = record { laid = found; spots = spots_of is_union pieces }

laid_found : (is_union : Bool) (pieces : List Piece) (test : Bool) (laid : Laid) → (if test then Some (laid_of is_union pieces) else None) ≡ Some laid → laid_of is_union pieces ≡ laid
laid_found is_union pieces true laid is = some_same _ laid is
laid_found is_union pieces false laid is = absurd cc

row_aligned : (is_union : Bool) (pieces : List Piece) (row : CRow) → All IsAlignedPiece pieces → row_of_pieces is_union pieces ≡ Some row → IsAlignment row.laid.align
row_aligned is_union pieces row are is =
    let found = map_found (row_with is_union pieces) (laid_record is_union pieces) row is in
    let same = laid_found is_union pieces (nat_le (laid_of is_union pieces).size most_bytes) found.0 found.1 in
    subst (λ (r : CRow). IsAlignment r.laid.align) found.2 (subst (λ (l : Laid). IsAlignment l.align) same (all_aligned pieces (no_front is_union) refl are))

abbrev members_or : Option CRecord → List CMember
members_or None = []
members_or (Some one) = one.members

-- a bit-field of a typed structure or union has an integer type (6.7.2.1p4)
whole_bits : (types : CTypes) (number index : ℕ) (one : CMember) → AreTypes types → member_of types (record_type number) index ≡ Some one → HasWholeBits types one
whole_bits types number index one are is = by one.bits (member_in types (record_type number) index one are is).1.bits
  where
    by : (bits : Option ℕ) → IfSome bits (IsBitFieldOf types one) → IfSome bits (λ width. IsIntegerType types one.type)
    by None held = tt
    by (Some width) held = held.integer

passes_aligned : (types : CTypes) → AreTypes types → (count : ℕ) → AreAlignedRows (passes count types)
passes_aligned types are zero number row is = absurd (let h : None ≡ Some row = sym (passes_none types number) ∙ is in cc)
passes_aligned types are (suc count) number row is =
    let found = then_found (row_of (passes count types)) (record_at types number) row (sym (row_at-pass types (passes count types) number) ∙ is) in
    let laid = then_found (row_of_pieces found.0.is_union) (pieces_of (passes count types) found.0.members) row found.2 in
    row_aligned found.0.is_union laid.0 row
    (pieces_aligned (passes count types) (passes_aligned types are count) types found.0.members laid.0
    (λ index one there. whole_bits types number index one are (ap (λ held. slice_get (members_or held) index) found.1 ∙ there)) laid.1)
    laid.2

-- ---- all types of a program

-- each type of a size has an alignment that a store knows
pub types_aligned : (types : CTypes) (type : CTy) (laid : Laid) → AreTypes types → whole_extent (layouts_of types) type ≡ Some laid → IsAlignment laid.align
types_aligned types type laid are is =
    extent_aligned (layouts_of types)
    (λ number row held. passes_aligned types are (completed_count types.records) number row (sym (ap (λ (all : CLayouts). row_at all number) (layouts_are types)) ∙ held)) type laid is
