-- Members stand at multiples of their alignments, and a structure or union is aligned for each of them (ISO C99, 6.7.2.1p12).
use Rattle.std.proofs.Common.{◌≡◌, ℕ, zero, suc, ◌*◌, ◌/◌, ◌%◌, ◌<◌, ◌≤◌, nat_le, Bool, true, false, if◌then◌else◌, List, [], ◌∷◌, Option, None, Some, slice_get, is_some, IsSome, IfSome, max, refl, sym, ap, subst, ◌∙◌, arith}
use Rattle.std.proofs.Math.Nat.{mul-mod_right, mul_assoc}
use Rattle.std.specs.Int.{next_multiple_of}
use Rattle.cr_base.proofs.Layouts.{rounded, align_grows}
use Rattle.cr_base.specs.Layout.{most_bytes, align_of, after, after_all, no_front, laid_of, laid_record, spot, spots_behind, spots_of}
use Rattle.cr_base.specs.declared.layout.Front.{Front}
use Rattle.cr_base.specs.declared.layout.Laid.{Laid}
use Rattle.cr_base.specs.declared.layout.Piece.{Piece}
use Rattle.cr_base.specs.declared.layout.Piece.TheVariants.{Plain, Bits}
use Rattle.cr_base.specs.declared.layout.Spot.{Spot}
use Rattle.cx_core.specs.Conversions.{IsIntegerType, width_of_basic}
use Rattle.cx_core.specs.declared.ty.Basic.{Basic}
use Rattle.cx_core.specs.declared.ty.Basic.TheVariants as basics
use Rattle.cx_core.specs.Layouts.{CLayouts, CRow, row_at, array_extent, whole_extent, piece, piece_of, put_front, pieces_of, row_of, row_of_pieces, passes, completed_count, layouts_of}
use Rattle.cx_core.specs.Trees.{CTy, ty, void, basic, enum_type, pointer, array, record_type, function, form_of_type, CMember, CRecord, CTypes}
use Rattle.cx_core.specs.ValidTypes.{AreTypes, IsBitFieldOf, member_of, spot_of}
use Rattle.cx_layout.proofs.Builds.{layouts_are}
use Rattle.cx_layout.proofs.Passes.{passes_none, row_at-pass}
use Rattle.cx_layout.specs.Calls.{record_at}
use Rattle.cx_typed_work.proofs.Fields.{member_in}
use Rattle.cx_typed_work.proofs.Rows.{then_found, map_found, some_same, HasWholeBits, row_here}
use Rattle.lift_stands_values.specs.Members.{FitsAt}

-- ---- alignments

data Step : Type 0 where
  one_byte : Step
  two_bytes : Step
  four_bytes : Step
  eight_bytes : Step

abbrev bytes_in : Step → ℕ
bytes_in one_byte = 1
bytes_in two_bytes = 2
bytes_in four_bytes = 4
bytes_in eight_bytes = 8

record IsAlign (n : ℕ) : Type 0 where
  which : Step
  is : n ≡ bytes_in which

greater : (a b : Step) → IsAlign (max (bytes_in a) (bytes_in b))
greater one_byte b = record { which = b; is = by b }
  where
    by : (b : Step) → max 1 (bytes_in b) ≡ bytes_in b
    by one_byte = refl
    by two_bytes = refl
    by four_bytes = refl
    by eight_bytes = refl
greater two_bytes one_byte = record { which = two_bytes; is = refl }
greater two_bytes two_bytes = record { which = two_bytes; is = refl }
greater two_bytes four_bytes = record { which = four_bytes; is = refl }
greater two_bytes eight_bytes = record { which = eight_bytes; is = refl }
greater four_bytes one_byte = record { which = four_bytes; is = refl }
greater four_bytes two_bytes = record { which = four_bytes; is = refl }
greater four_bytes four_bytes = record { which = four_bytes; is = refl }
greater four_bytes eight_bytes = record { which = eight_bytes; is = refl }
greater eight_bytes one_byte = record { which = eight_bytes; is = refl }
greater eight_bytes two_bytes = record { which = eight_bytes; is = refl }
greater eight_bytes four_bytes = record { which = eight_bytes; is = refl }
greater eight_bytes eight_bytes = record { which = eight_bytes; is = refl }

greatest : (a b : ℕ) → IsAlign a → IsAlign b → IsAlign (max a b)
greatest a b one other =
    subst (λ (n : ℕ). IsAlign (max n b)) (sym one.is) (subst (λ (n : ℕ). IsAlign (max (bytes_in one.which) n)) (sym other.is) (greater one.which other.which))

steps_divide : (a b : Step) → bytes_in a ≤ bytes_in b → bytes_in b % bytes_in a ≡ 0
steps_divide one_byte one_byte p = refl
steps_divide one_byte two_bytes p = refl
steps_divide one_byte four_bytes p = refl
steps_divide one_byte eight_bytes p = refl
steps_divide two_bytes one_byte p = absurd (omega (arith, p))
steps_divide two_bytes two_bytes p = refl
steps_divide two_bytes four_bytes p = refl
steps_divide two_bytes eight_bytes p = refl
steps_divide four_bytes one_byte p = absurd (omega (arith, p))
steps_divide four_bytes two_bytes p = absurd (omega (arith, p))
steps_divide four_bytes four_bytes p = refl
steps_divide four_bytes eight_bytes p = refl
steps_divide eight_bytes one_byte p = absurd (omega (arith, p))
steps_divide eight_bytes two_bytes p = absurd (omega (arith, p))
steps_divide eight_bytes four_bytes p = absurd (omega (arith, p))
steps_divide eight_bytes eight_bytes p = refl

divides : (a b : ℕ) → IsAlign a → IsAlign b → a ≤ b → b % a ≡ 0
divides a b one other p =
    let less : bytes_in one.which ≤ bytes_in other.which = subst (λ (n : ℕ). n ≤ bytes_in other.which) one.is (subst (λ (n : ℕ). a ≤ n) other.is p) in
    subst (λ (n : ℕ). b % n ≡ 0) (sym one.is) (subst (λ (n : ℕ). n % bytes_in one.which ≡ 0) (sym other.is) (steps_divide one.which other.which less))

-- ---- types

abbrev AreAligned : CLayouts → Type 0
AreAligned layouts = (number : ℕ) (row : CRow) → row_at layouts number ≡ Some row → IsAlign row.laid.align

basic_align : (which : Basic) → IsAlign (width_of_basic which / 8)
basic_align basics.Truth = record { which = one_byte; is = refl }
basic_align basics.Char = record { which = one_byte; is = refl }
basic_align basics.SignedChar = record { which = one_byte; is = refl }
basic_align basics.UnsignedChar = record { which = one_byte; is = refl }
basic_align basics.Short = record { which = two_bytes; is = refl }
basic_align basics.UnsignedShort = record { which = two_bytes; is = refl }
basic_align basics.Int = record { which = four_bytes; is = refl }
basic_align basics.Unsigned = record { which = four_bytes; is = refl }
basic_align basics.Long = record { which = eight_bytes; is = refl }
basic_align basics.UnsignedLong = record { which = eight_bytes; is = refl }
basic_align basics.LongLong = record { which = eight_bytes; is = refl }
basic_align basics.UnsignedLongLong = record { which = eight_bytes; is = refl }

array_align : (length : Option ℕ) (found : Option Laid) (laid : Laid) → ((inner : Laid) → found ≡ Some inner → IsAlign inner.align) → array_extent length found ≡ Some laid → IsAlign laid.align
array_align None found laid inner is = absurd cc
array_align (Some zero) found laid inner is = absurd cc
array_align (Some (suc n)) None laid inner is = absurd cc
array_align (Some (suc n)) (Some one) laid inner is = subst (λ (l : Laid). IsAlign l.align) (some_same _ laid is) (inner one refl)

type_align : (layouts : CLayouts) (type : CTy) (laid : Laid) → AreAligned layouts → whole_extent layouts type ≡ Some laid → IsAlign laid.align
type_align layouts (ty (basic which) is_const) laid are is = subst (λ (l : Laid). IsAlign l.align) (some_same _ laid is) (basic_align which)
type_align layouts (ty (enum_type number) is_const) laid are is = subst (λ (l : Laid). IsAlign l.align) (some_same _ laid is) (record { which = four_bytes; is = refl })
type_align layouts (ty (pointer to) is_const) laid are is = subst (λ (l : Laid). IsAlign l.align) (some_same _ laid is) (record { which = eight_bytes; is = refl })
type_align layouts (ty (array element length) is_const) laid are is =
    array_align length (whole_extent layouts element) laid (λ inner held. type_align layouts element inner are held) is
type_align layouts (ty (record_type number) is_const) laid are is =
    let found = map_found (λ (row : CRow). row.laid) (row_at layouts number) laid is in
    subst (λ (l : Laid). IsAlign l.align) found.2 (are number found.0 found.1)
type_align layouts (ty void is_const) laid are is = absurd cc
type_align layouts (ty (function result params variadic) is_const) laid are is = absurd cc

-- an integer type is aligned to its size
integer_align : (types : CTypes) (layouts : CLayouts) (type : CTy) (laid : Laid) → IsIntegerType types type → whole_extent layouts type ≡ Some laid → IsAlign laid.size
integer_align types layouts (ty (basic which) is_const) laid whole is = subst (λ (one : Laid). IsAlign one.size) (some_same _ laid is) (basic_align which)
integer_align types layouts (ty (enum_type number) is_const) laid whole is = subst (λ (one : Laid). IsAlign one.size) (some_same _ laid is) (record { which = four_bytes; is = refl })
integer_align types layouts (ty void is_const) laid whole is = absurd cc
integer_align types layouts (ty (pointer to) is_const) laid whole is = absurd cc
integer_align types layouts (ty (array element length) is_const) laid whole is = absurd cc
integer_align types layouts (ty (record_type number) is_const) laid whole is = absurd cc
integer_align types layouts (ty (function result params variadic) is_const) laid whole is = absurd cc

-- ---- members

bits_align : (size width : ℕ) (is_named : Bool) → IsAlign size → IsAlign (align_of (Bits size width is_named))
bits_align size width true is = is
bits_align size width false is = record { which = one_byte; is = refl }

abbrev piece_with : CMember → Option ℕ → Laid → Piece
piece_with one bits laid = elim bits as (λ _. Piece) [
  | None ↦ Plain laid.size laid.align
  | Some width ↦ Bits laid.size width (is_some one.name)
]

piece_align : (types : CTypes) (layouts : CLayouts) (one : CMember) (laid : Laid) (bits : Option ℕ) → AreAligned layouts → IfSome bits (λ width. IsIntegerType types one.type) → whole_extent layouts one.type ≡ Some laid
    → IsAlign (align_of (piece_with one bits laid))
piece_align types layouts one laid None are whole is = type_align layouts one.type laid are is
piece_align types layouts one laid (Some width) are whole is = bits_align laid.size width (is_some one.name) (integer_align types layouts one.type laid whole is)

member_align : (types : CTypes) (layouts : CLayouts) (one : CMember) (found : Piece) → AreAligned layouts → HasWholeBits types one → piece_of layouts one ≡ Some found → IsAlign (align_of found)
member_align types layouts one found are whole is =
    let inner = map_found (piece one) (whole_extent layouts one.type) found is in
    subst (λ (p : Piece). IsAlign (align_of p)) inner.2 (piece_align types layouts one inner.0 one.bits are whole inner.1)

record PutFront (front : Option Piece) (behind : Option (List Piece)) (pieces : List Piece) : Type 0 where
  first : Piece
  rest : List Piece
  first_is : front ≡ Some first
  rest_is : behind ≡ Some rest
  are : first ∷ rest ≡ pieces

front_found : (front : Option Piece) (behind : Option (List Piece)) (pieces : List Piece) → put_front front behind ≡ Some pieces → PutFront front behind pieces
front_found None behind pieces is = absurd cc
front_found (Some first) None pieces is = absurd cc
front_found (Some first) (Some rest) pieces is = record { first = first; rest = rest; first_is = refl; rest_is = refl; are = some_same (first ∷ rest) pieces is }

members_align : (types : CTypes) (layouts : CLayouts) (front : Front) (members : List CMember) (pieces : List Piece) → AreAligned layouts → ((index : ℕ) (one : CMember) → slice_get members index ≡ Some one → HasWholeBits types one)
    → pieces_of layouts members ≡ Some pieces → IsAlign front.align → IsAlign (after_all front pieces).align
members_align types layouts front [] pieces are whole is from = subst (λ (list : List Piece). IsAlign (after_all front list).align) (some_same [] pieces is) from
members_align types layouts front (first ∷ others) pieces are whole is from =
    let found = front_found (piece_of layouts first) (pieces_of layouts others) pieces is in
    subst (λ (list : List Piece). IsAlign (after_all front list).align) found.are
    (members_align types layouts (after front found.first) others found.rest are (λ index. whole (suc index)) found.rest_is
    (greatest front.align (align_of found.first) from (member_align types layouts first found.first are (whole 0 first refl) found.first_is)))

-- ---- rows

row_laid : (is_union : Bool) (pieces : List Piece) (row : CRow) → row_of_pieces is_union pieces ≡ Some row → row.laid ≡ laid_of is_union pieces
row_laid is_union pieces row is =
    let found = map_found (λ (laid : Laid). record { laid = laid; spots = spots_of is_union pieces }) (laid_record is_union pieces) row is in
    sym (ap (λ (r : CRow). r.laid) found.2) ∙ by (nat_le (laid_of is_union pieces).size most_bytes) found.0 found.1
  where
    by : (test : Bool) (laid : Laid) → (if test then Some (laid_of is_union pieces) else None) ≡ Some laid → laid ≡ laid_of is_union pieces
    by true laid e = sym (some_same _ laid e)
    by false laid e = absurd cc

abbrev BitsWhole : CTypes → Type 0
BitsWhole types = (number : ℕ) (one : CRecord) → record_at types number ≡ Some one → (index : ℕ) (of : CMember) → slice_get one.members index ≡ Some of → HasWholeBits types of

passes_align : (n : ℕ) (types : CTypes) → BitsWhole types → AreAligned (passes n types)
passes_align zero types whole number row is = absurd (let h : None ≡ Some row = sym (passes_none types number) ∙ is in cc)
passes_align (suc n) types whole number row is =
    let found = then_found (row_of (passes n types)) (record_at types number) row (sym (row_at-pass types (passes n types) number) ∙ is) in
    let laid = then_found (row_of_pieces found.0.is_union) (pieces_of (passes n types) found.0.members) row found.2 in
    subst (λ (l : Laid). IsAlign l.align) (sym (row_laid found.0.is_union laid.0 row laid.2))
    (members_align types (passes n types) (no_front found.0.is_union) found.0.members laid.0 (passes_align n types whole) (whole number found.0 found.1) laid.1 (record { which = one_byte; is = refl }))

abbrev members_or : Option CRecord → List CMember
members_or None = []
members_or (Some one) = one.members

bits_whole : (types : CTypes) → AreTypes types → BitsWhole types
bits_whole types are number one one_is index of is = by of.bits (member_in types (record_type number) index of are (ap (λ (r : Option CRecord). slice_get (members_or r) index) one_is ∙ is)).1.bits
  where
    by : (bits : Option ℕ) → IfSome bits (IsBitFieldOf types of) → IfSome bits (λ width. IsIntegerType types of.type)
    by None held = tt
    by (Some width) held = held.integer

layouts_align : (types : CTypes) → AreTypes types → AreAligned (layouts_of types)
layouts_align types are = subst AreAligned (sym (layouts_are types)) (passes_align (completed_count types.records) types (bits_whole types are))

-- ---- spots

record StandsBehind (layouts : CLayouts) (front : Front) (pieces : List Piece) (one : CMember) (place : Spot) : Type 0 where
  before : Front
  found : Piece
  found_is : piece_of layouts one ≡ Some found
  place_is : spot before found ≡ place
  less : align_of found ≤ (after_all front pieces).align

stands_behind : (layouts : CLayouts) (front : Front) (members : List CMember) (pieces : List Piece) (index : ℕ) (one : CMember) (place : Spot) → pieces_of layouts members ≡ Some pieces → slice_get members index ≡ Some one
    → slice_get (spots_behind front pieces) index ≡ Some place → StandsBehind layouts front pieces one place
stands_behind layouts front [] pieces index one place is at e = absurd cc
stands_behind layouts front (first ∷ others) pieces zero one place is at e =
    let found = front_found (piece_of layouts first) (pieces_of layouts others) pieces is in
    let same : first ≡ one = some_same first one at in
    subst (λ (list : List Piece). StandsBehind layouts front list one place) found.are (record {
      before = front;
      found = found.first;
      found_is = subst (λ (m : CMember). piece_of layouts m ≡ Some found.first) same found.first_is;
      place_is = some_same (spot front found.first) place (subst (λ (list : List Piece). slice_get (spots_behind front list) 0 ≡ Some place) (sym found.are) e);
      less = let more = align_grows found.rest (after front found.first) in omega (arith, more);
    })
stands_behind layouts front (first ∷ others) pieces (suc index) one place is at e =
    let found = front_found (piece_of layouts first) (pieces_of layouts others) pieces is in
    let held = stands_behind layouts (after front found.first) others found.rest index one place found.rest_is at
    (subst (λ (list : List Piece). slice_get (spots_behind front list) (suc index) ≡ Some place) (sym found.are) e) in
    subst (λ (list : List Piece). StandsBehind layouts front list one place) found.are (record { before = held.before; found = held.found; found_is = held.found_is; place_is = held.place_is; less = held.less })

-- a member begins at a multiple of its alignment
plain_byte : (front : Front) (size align : ℕ) → 0 < align → (spot front (Plain size align)).byte % align ≡ 0
plain_byte front size align some = by front.is_union
  where
    by : (is_union : Bool) → ((if is_union then 0 else next_multiple_of front.bits (8 * align)) / 8) % align ≡ 0
    by true = let none : align * 0 ≡ 0 = omega arith in subst (λ (n : ℕ). n % align ≡ 0) none (mul-mod_right align 0)
    by false =
        let round = rounded front.bits (8 * align) (omega (arith, some)) in
        let is : next_multiple_of front.bits (8 * align) ≡ 8 * (align * round.0) = round.1 ∙ mul_assoc 8 align round.0 in
        let eighth : next_multiple_of front.bits (8 * align) / 8 ≡ align * round.0 = omega (arith, is) in
        ap (λ (n : ℕ). n % align) eighth ∙ mul-mod_right align round.0

step_some : (a : Step) → 0 < bytes_in a
step_some one_byte = omega arith
step_some two_bytes = omega arith
step_some four_bytes = omega arith
step_some eight_bytes = omega arith

align_some : (n : ℕ) → IsAlign n → 0 < n
align_some n is = subst (λ (m : ℕ). 0 < m) (sym is.is) (step_some is.which)

spot_align : (one : CMember) (own : Laid) (bits : Option ℕ) (before : Front) (place : Spot) → IsAlign own.align → IfSome bits (λ width. 0 < width) → spot before (piece_with one bits own) ≡ place → place.width ≡ 0 →
    (place.byte % own.align ≡ 0) × (align_of (piece_with one bits own) ≡ own.align)
spot_align one own None before place is some e zero_is = (subst (λ (p : Spot). p.byte % own.align ≡ 0) e (plain_byte before own.size own.align (align_some own.align is)), refl)
spot_align one own (Some width) before place is some e zero_is =
    let width_is : width ≡ place.width = ap (λ (p : Spot). p.width) e in
    absurd (omega (arith, width_is, zero_is, some))

abbrev spots_or : Option CRow → List Spot
spots_or None = []
spots_or (Some row) = row.spots

-- a named member that is no bit-field stands where its type may, and its structure or union is aligned for it
pub member_fits : (types : CTypes) (holder : CTy) (index : ℕ) (one : CMember) (place : Spot) (laid own : Laid) → AreTypes types → member_of types (form_of_type holder) index ≡ Some one → IsSome one.name
    → spot_of types (form_of_type holder) index ≡ Some place → whole_extent (layouts_of types) holder ≡ Some laid → place.width ≡ 0 → whole_extent (layouts_of types) one.type ≡ Some own → FitsAt own.align laid.align place.byte
member_fits types (ty (record_type number) is_const) index one place laid own are member_is named spot_is sized zero_is own_is =
    let row = map_found (λ (row : CRow). row.laid) (row_at (layouts_of types) number) laid sized in
    let here = row_here types number row.0 row.1 in
    let spot_there : slice_get row.0.spots index ≡ Some place = sym (ap (λ found. slice_get (spots_or found) index) row.1) ∙ spot_is in
    let member_there : slice_get here.one.members index ≡ Some one = sym (ap (λ found. slice_get (members_or found) index) here.one_is) ∙ member_is in
    let stands = stands_behind (layouts_of types) (no_front here.one.is_union) here.one.members here.pieces index one place here.pieces_are member_there
    (sym (ap (λ (spots : List Spot). slice_get spots index) here.spots_are) ∙ spot_there) in
    let inner = map_found (piece one) (whole_extent (layouts_of types) one.type) stands.found stands.found_is in
    let same : inner.0 ≡ own = some_same inner.0 own (sym inner.1 ∙ own_is) in
    let found_as : piece_with one one.bits own ≡ stands.found = sym (ap (λ (l : Laid). piece_with one one.bits l) same) ∙ inner.2 in
    let aligned = layouts_align types are in
    let own_align = type_align (layouts_of types) one.type own aligned own_is in
    let wide : IfSome one.bits (λ width. 0 < width) = by one.bits (member_in types (record_type number) index one are member_is).1.bits in
    let spot_at = spot_align one own one.bits stands.before place own_align wide (ap (spot stands.before) found_as ∙ stands.place_is) zero_is in
    let by_row = then_found (row_of_pieces here.one.is_union) (pieces_of (layouts_of types) here.one.members) row.0 here.row_is in
    let pieces_same : by_row.0 ≡ here.pieces = some_same by_row.0 here.pieces (sym by_row.1 ∙ here.pieces_are) in
    let laid_is : row.0.laid ≡ laid_of here.one.is_union here.pieces = row_laid here.one.is_union by_row.0 row.0 by_row.2 ∙ ap (laid_of here.one.is_union) pieces_same in
    let align_is : (after_all (no_front here.one.is_union) here.pieces).align ≡ laid.align = ap (λ (l : Laid). l.align) (sym laid_is ∙ row.2) in
    let less : own.align ≤ laid.align =
    subst (λ (n : ℕ). n ≤ laid.align) (sym (ap align_of found_as) ∙ spot_at.1) (subst (λ (n : ℕ). align_of stands.found ≤ n) align_is stands.less) in
    record {
      at_byte = spot_at.0;
      at_begin = divides own.align laid.align own_align (type_align (layouts_of types) (ty (record_type number) is_const) laid aligned sized) less;
      within = less;
    }
  where
    by : (bits : Option ℕ) → IfSome bits (IsBitFieldOf types one) → IfSome bits (λ width. 0 < width)
    by None held = tt
    by (Some width) held = held.named named
member_fits types (ty void is_const) index one place laid own are member_is named spot_is sized zero_is own_is = absurd cc
member_fits types (ty (basic which) is_const) index one place laid own are member_is named spot_is sized zero_is own_is = absurd cc
member_fits types (ty (enum_type number) is_const) index one place laid own are member_is named spot_is sized zero_is own_is = absurd cc
member_fits types (ty (pointer to) is_const) index one place laid own are member_is named spot_is sized zero_is own_is = absurd cc
member_fits types (ty (array element length) is_const) index one place laid own are member_is named spot_is sized zero_is own_is = absurd cc
member_fits types (ty (function result params variadic) is_const) index one place laid own are member_is named spot_is sized zero_is own_is = absurd cc

-- the alignment of a type is more than 0
pub extent_align : (types : CTypes) (type : CTy) (laid : Laid) → AreTypes types → whole_extent (layouts_of types) type ≡ Some laid → 0 < laid.align
extent_align types type laid are is = align_some laid.align (type_align (layouts_of types) type laid (layouts_align types are) is)
