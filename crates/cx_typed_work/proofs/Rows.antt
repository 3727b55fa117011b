-- How the structures and unions of a typed program are laid out: each of their members has a size and an alignment (ISO C99, 6.7.2.1).
use Rattle.std.proofs.Common.{◌≡◌, ℕ, zero, suc, ◌/◌, ◌<◌, ◌≤◌, nat_le, Bool, true, false, if◌then◌else◌, List, [], ◌∷◌, Option, None, Some, option_map, slice_get, All, is_some, IfSome, refl, sym, ap, ◌∙◌, subst, arith}
use Rattle.std.proofs.lemmas.List.Elements.{All-nil, All-cons}
use Rattle.std.specs.Option.{option_and_then}
use Rattle.cr_base.proofs.Layouts.{align_grows}
use Rattle.cr_base.specs.declared.layout.Laid.{Laid}
use Rattle.cr_base.specs.declared.layout.Piece.{Piece}
use Rattle.cr_base.specs.declared.layout.Piece.TheVariants.{Plain, Bits}
use Rattle.cr_base.specs.Layout.{most_bytes, align_of, no_front, after_all, laid_of, laid_record, spots_of}
use Rattle.cx_core.specs.Conversions.{width_of_basic, IsIntegerType}
use Rattle.cx_core.specs.declared.ty.Basic.{Basic}
use Rattle.cx_core.specs.declared.ty.Basic.TheVariants.{Truth, Char, SignedChar, UnsignedChar, Short, UnsignedShort, Int, Unsigned, Long, UnsignedLong, LongLong, UnsignedLongLong}
use Rattle.cx_core.specs.Layouts.{CLayouts, CRow, row_at, array_extent, whole_extent, extent, within_most, piece, piece_of, pieces_of, put_front, row_of, row_of_pieces, passes, completed_count, layouts_of}
use Rattle.cx_core.specs.Trees.{CTy, ty, void, basic, enum_type, pointer, array, record_type, function, CMember, CRecord, CTypes}
use Rattle.cx_layout.proofs.Builds.{layouts_are}
use Rattle.cx_layout.proofs.Passes.{Extends, pieces_more, row_more, passes_more, passes_none, row_at-pass}
use Rattle.cx_layout.specs.Calls.{record_at}
use Rattle.cx_layout.specs.Places.{IsLaidOut}

-- ---- options

pub then_found : {X Y : Type 0} (f : X → Option Y) (o : Option X) (y : Y) → option_and_then f o ≡ Some y → (x : X) × (o ≡ Some x) × (f x ≡ Some y)
then_found f None y is = absurd cc
then_found f (Some x) y is = (x, refl, is)

pub map_found : {X Y : Type 0} (f : X → Y) (o : Option X) (y : Y) → option_map f o ≡ Some y → (x : X) × (o ≡ Some x) × (f x ≡ y)
map_found f None y is = absurd cc
map_found f (Some x) y is = (x, refl, cc)

pub some_same : {X : Type 0} (x y : X) → Some x ≡ Some y → x ≡ y
some_same x y is = cc

-- ---- sizes

within_found : (test : Bool) (laid found : Laid) → (if test then Some laid else None) ≡ Some found → laid ≡ found
within_found true laid found is = some_same laid found is
within_found false laid found is = absurd cc

-- a type of a size that isn't too large has that size
pub extent_whole : (layouts : CLayouts) (type : CTy) (laid : Laid) → extent layouts type ≡ Some laid → whole_extent layouts type ≡ Some laid
extent_whole layouts type laid is =
    let found = then_found within_most (whole_extent layouts type) laid is in
    found.1 ∙ ap Some (within_found (nat_le found.0.size most_bytes) found.0 laid found.2)

basic_sized : (which : Basic) → 0 < width_of_basic which / 8
basic_sized Truth = omega arith
basic_sized Char = omega arith
basic_sized SignedChar = omega arith
basic_sized UnsignedChar = omega arith
basic_sized Short = omega arith
basic_sized UnsignedShort = omega arith
basic_sized Int = omega arith
basic_sized Unsigned = omega arith
basic_sized Long = omega arith
basic_sized UnsignedLong = omega arith
basic_sized LongLong = omega arith
basic_sized UnsignedLongLong = omega arith

-- an integer type has a byte or more
integer_sized : (types : CTypes) (layouts : CLayouts) (type : CTy) (laid : Laid) → IsIntegerType types type → whole_extent layouts type ≡ Some laid → 0 < laid.size
integer_sized types layouts (ty (basic which) is_const) laid whole is = subst (λ (one : Laid). 0 < one.size) (some_same _ laid is) (basic_sized which)
integer_sized types layouts (ty (enum_type number) is_const) laid whole is = subst (λ (one : Laid). 0 < one.size) (some_same _ laid is) (omega arith)
integer_sized types layouts (ty void is_const) laid whole is = absurd cc
integer_sized types layouts (ty (pointer to) is_const) laid whole is = absurd cc
integer_sized types layouts (ty (array element length) is_const) laid whole is = absurd cc
integer_sized types layouts (ty (record_type number) is_const) laid whole is = absurd cc
integer_sized types layouts (ty (function result params variadic) is_const) laid whole is = absurd cc

-- ---- alignments

abbrev row_with : Bool → List Piece → Laid → CRow
row_with is_union pieces found = record { laid = found; spots = spots_of is_union pieces }

laid_aligned : (is_union : Bool) (pieces : List Piece) (test : Bool) (laid : Laid) → (if test then Some (laid_of is_union pieces) else None) ≡ Some laid → 0 < laid.align
laid_aligned is_union pieces true laid is =
    let most : 1 ≤ (after_all (no_front is_union) pieces).align = align_grows pieces (no_front is_union) in
    subst (λ (one : Laid). 0 < one.align) (some_same _ laid is) (omega (arith, most))
laid_aligned is_union pieces false laid is = absurd cc

row_aligned : (is_union : Bool) (pieces : List Piece) (row : CRow) → row_of_pieces is_union pieces ≡ Some row → 0 < row.laid.align
row_aligned is_union pieces row is =
    let found = map_found (row_with is_union pieces) (laid_record is_union pieces) row is in
    subst (λ (r : CRow). 0 < r.laid.align) found.2 (laid_aligned is_union pieces (nat_le (laid_of is_union pieces).size most_bytes) found.0 found.1)

laid_within : (is_union : Bool) (pieces : List Piece) (test : Bool) (laid : Laid) → nat_le (laid_of is_union pieces).size most_bytes ≡ test → (if test then Some (laid_of is_union pieces) else None) ≡ Some laid
    → within_most laid ≡ Some laid
laid_within is_union pieces true laid e is =
    subst (λ (one : Laid). within_most one ≡ Some one) (some_same _ laid is) (ap (λ test. if test then Some (laid_of is_union pieces) else None) e)
laid_within is_union pieces false laid e is = absurd cc

row_within : (is_union : Bool) (pieces : List Piece) (row : CRow) → row_of_pieces is_union pieces ≡ Some row → within_most row.laid ≡ Some row.laid
row_within is_union pieces row is =
    let found = map_found (row_with is_union pieces) (laid_record is_union pieces) row is in
    subst (λ (r : CRow). within_most r.laid ≡ Some r.laid) found.2 (laid_within is_union pieces (nat_le (laid_of is_union pieces).size most_bytes) found.0 refl found.1)

-- a row of a pass, by its members
record IsPassed (types : CTypes) (count number : ℕ) (row : CRow) : Type 0 where
  passed : ℕ
  passed_is : suc passed ≡ count
  one : CRecord
  one_is : record_at types number ≡ Some one
  pieces : List Piece
  pieces_are : pieces_of (passes passed types) one.members ≡ Some pieces
  row_by : row_of_pieces one.is_union pieces ≡ Some row
  row_is : row_of (passes passed types) one ≡ Some row

row_passed : (types : CTypes) (count number : ℕ) (row : CRow) → row_at (passes count types) number ≡ Some row → IsPassed types count number row
row_passed types zero number row is = absurd (let h : None ≡ Some row = sym (passes_none types number) ∙ is in cc)
row_passed types (suc count) number row is =
    let found = then_found (row_of (passes count types)) (record_at types number) row (sym (row_at-pass types (passes count types) number) ∙ is) in
    let laid = then_found (row_of_pieces found.0.is_union) (pieces_of (passes count types) found.0.members) row found.2 in
    record { passed = count; passed_is = refl; one = found.0; one_is = found.1; pieces = laid.0; pieces_are = laid.1; row_by = laid.2; row_is = found.2 }

row_some_aligned : (types : CTypes) (number : ℕ) (row : CRow) → row_at (layouts_of types) number ≡ Some row → 0 < row.laid.align
row_some_aligned types number row is =
    let found = row_passed types (completed_count types.records) number row (sym (ap (λ (all : CLayouts). row_at all number) (layouts_are types)) ∙ is) in
    row_aligned found.one.is_union found.pieces row found.row_by

-- a structure or union that is laid out is complete
pub row_sized : (types : CTypes) (number : ℕ) (is_const : Bool) (row : CRow) → row_at (layouts_of types) number ≡ Some row → extent (layouts_of types) (ty (record_type number) is_const) ≡ Some row.laid
row_sized types number is_const row is =
    let found = row_passed types (completed_count types.records) number row (sym (ap (λ (all : CLayouts). row_at all number) (layouts_are types)) ∙ is) in
    ap (λ (o : Option CRow). option_and_then within_most (option_map (λ (row : CRow). row.laid) o)) is ∙ row_within found.one.is_union found.pieces row found.row_by

array_aligned : (length : Option ℕ) (found : Option Laid) (laid : Laid) → ((inner : Laid) → found ≡ Some inner → 0 < inner.align) → array_extent length found ≡ Some laid → 0 < laid.align
array_aligned None found laid inner is = absurd cc
array_aligned (Some zero) found laid inner is = absurd cc
array_aligned (Some (suc n)) None laid inner is = absurd cc
array_aligned (Some (suc n)) (Some one) laid inner is = subst (λ (l : Laid). 0 < l.align) (some_same _ laid is) (inner one refl)

-- an object is aligned
extent_aligned : (types : CTypes) (type : CTy) (laid : Laid) → whole_extent (layouts_of types) type ≡ Some laid → 0 < laid.align
extent_aligned types (ty (basic which) is_const) laid is = subst (λ (l : Laid). 0 < l.align) (some_same _ laid is) (basic_sized which)
extent_aligned types (ty (enum_type number) is_const) laid is = subst (λ (l : Laid). 0 < l.align) (some_same _ laid is) (omega arith)
extent_aligned types (ty (pointer to) is_const) laid is = subst (λ (l : Laid). 0 < l.align) (some_same _ laid is) (omega arith)
extent_aligned types (ty (array element length) is_const) laid is =
    array_aligned length (whole_extent (layouts_of types) element) laid (λ inner held. extent_aligned types element inner held) is
extent_aligned types (ty (record_type number) is_const) laid is =
    let found = map_found (λ (row : CRow). row.laid) (row_at (layouts_of types) number) laid is in
    subst (λ (l : Laid). 0 < l.align) found.2 (row_some_aligned types number found.0 found.1)
extent_aligned types (ty void is_const) laid is = absurd cc
extent_aligned types (ty (function result params variadic) is_const) laid is = absurd cc

bits_aligned : (size width : ℕ) (is_named : Bool) → 0 < size → 0 < align_of (Bits size width is_named)
bits_aligned size width true some = some
bits_aligned size width false some = omega arith

-- ---- members

-- a bit-field has an integer type
abbrev pub HasWholeBits : CTypes → CMember → Type 0
HasWholeBits types one = IfSome one.bits (λ width. IsIntegerType types one.type)

piece_aligned : (types : CTypes) (one : CMember) (laid : Laid) (bits : Option ℕ) → IfSome bits (λ width. IsIntegerType types one.type) → whole_extent (layouts_of types) one.type ≡ Some laid
    → 0 < align_of (elim bits as (λ _. Piece) [ None ↦ Plain laid.size laid.align | Some width ↦ Bits laid.size width (is_some one.name) ])
piece_aligned types one laid None whole is = extent_aligned types one.type laid is
piece_aligned types one laid (Some width) whole is = bits_aligned laid.size width (is_some one.name) (integer_sized types (layouts_of types) one.type laid whole is)

front_aligned : (types : CTypes) (first : CMember) (others : List CMember) (pieces : List Piece) → HasWholeBits types first
    → ((rest : List Piece) → pieces_of (layouts_of types) others ≡ Some rest → All (λ piece. 0 < align_of piece) rest)
    → (one : Option Piece) (rest : Option (List Piece)) → piece_of (layouts_of types) first ≡ one → pieces_of (layouts_of types) others ≡ rest → put_front one rest ≡ Some pieces → All (λ piece. 0 < align_of piece) pieces
front_aligned types first others pieces whole later None rest a b found = absurd cc
front_aligned types first others pieces whole later (Some one) None a b found = absurd cc
front_aligned types first others pieces whole later (Some one) (Some rest) a b found =
    let inner = map_found (piece first) (whole_extent (layouts_of types) first.type) one a in
    subst (All (λ piece. 0 < align_of piece)) (some_same (one ∷ rest) pieces found)
    (All-cons (λ piece. 0 < align_of piece) one rest
    (subst (λ (p : Piece). 0 < align_of p) inner.2 (piece_aligned types first inner.0 first.bits whole inner.1))
    (later rest b))

pieces_aligned : (types : CTypes) (members : List CMember) (pieces : List Piece) → ((index : ℕ) (one : CMember) → slice_get members index ≡ Some one → HasWholeBits types one)
    → pieces_of (layouts_of types) members ≡ Some pieces → All (λ piece. 0 < align_of piece) pieces
pieces_aligned types [] pieces whole is = subst (All (λ piece. 0 < align_of piece)) (some_same [] pieces is) (All-nil (λ piece. 0 < align_of piece))
pieces_aligned types (first ∷ others) pieces whole is =
    front_aligned types first others pieces (whole 0 first refl) (λ rest held. pieces_aligned types others rest (λ index. whole (suc index)) held)
    (piece_of (layouts_of types) first) (pieces_of (layouts_of types) others) refl refl is

-- ---- rows

-- a structure or union is laid out by the sizes and alignments of its members
pub record IsRow (types : CTypes) (number : ℕ) (row : CRow) : Type 0 where
  pub one : CRecord
  pub one_is : record_at types number ≡ Some one
  pub pieces : List Piece
  pub pieces_are : pieces_of (layouts_of types) one.members ≡ Some pieces
  pub row_is : row_of (layouts_of types) one ≡ Some row
  pub spots_are : row.spots ≡ spots_of one.is_union pieces

passes_below : (types : CTypes) (k n : ℕ) → suc k ≡ n → completed_count types.records ≡ n → Extends (passes k types) (layouts_of types)
passes_below types k n e count number row is =
    let later : row_at (passes (suc k) types) number ≡ Some row = passes_more types k number row is in
    ap (λ (all : CLayouts). row_at all number) (layouts_are types) ∙ subst (λ m. row_at (passes m types) number ≡ Some row) (e ∙ sym count) later

pub row_here : (types : CTypes) (number : ℕ) (row : CRow) → row_at (layouts_of types) number ≡ Some row → IsRow types number row
row_here types number row is =
    let found = row_passed types (completed_count types.records) number row (sym (ap (λ (all : CLayouts). row_at all number) (layouts_are types)) ∙ is) in
    let below = passes_below types found.passed (completed_count types.records) found.passed_is refl in
    let laid = map_found (row_with found.one.is_union found.pieces) (laid_record found.one.is_union found.pieces) row found.row_by in
    record {
      one = found.one;
      one_is = found.one_is;
      pieces = found.pieces;
      pieces_are = pieces_more (passes found.passed types) (layouts_of types) below found.one.members found.pieces found.pieces_are;
      row_is = row_more (passes found.passed types) (layouts_of types) below found.one row found.row_is;
      spots_are = sym (ap (λ (r : CRow). r.spots) laid.2);
    }

pub row_laid_out : (types : CTypes) (number : ℕ) (row : CRow) (here : IsRow types number row) → ((index : ℕ) (one : CMember) → slice_get here.one.members index ≡ Some one → HasWholeBits types one)
    → IsLaidOut (layouts_of types) here.one row here.pieces
row_laid_out types number row here whole =
    record { row_is = here.row_is; pieces_are = here.pieces_are; aligned = pieces_aligned types here.one.members here.pieces whole here.pieces_are }
